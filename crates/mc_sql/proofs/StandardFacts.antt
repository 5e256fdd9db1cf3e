-- Ways through functions that would read rules of the statements: where one token tells, where two
-- do, and where alternatives begin alike.
use Rattle.std.proofs.Common.{refl, ℕ, suc, List, ◌∷◌, Some, true, codes, arith}
use Rattle.mc_base.specs.declared.span.Span.{Span}
use Rattle.mc_token.specs.declared.lexeme.Lexeme.TheVariants.{Word, Sym}
use Rattle.mc_token.specs.declared.lexeme.Lexeme.{Lexeme}
use Rattle.mc_token.specs.declared.lexeme.Symbol.TheVariants.{LeftParen, Comma}
use Rattle.mc_token.specs.declared.lexeme.Token.{Token}
use Rattle.mc_grammar.specs.Ahead.{Ahead}
use Rattle.mc_grammar.specs.Language.{Language, IsSound}
use Rattle.mc_grammar.specs.Places.{Done, Fails, IsTooDeep}
use Rattle.mc_grammar.specs.Completions.{Complete}
use Rattle.mc_grammar.specs.Nest.{Marked}
use Rattle.mc_grammar.specs.Room.{Roomed, Admitted, admitted, room_language, free_completions}
use Rattle.mc_grammar.proofs.RoomTables.{room_sound}
use Rattle.mc_grammar.proofs.Seeing.{sees_next, sees_two, sees_not_two}
use Rattle.mc_grammar.proofs.Inside.{enter}
use Rattle.mc_grammar.proofs.Values.{done_takes}
use Rattle.mc_grammar.proofs.Ways.{choose, look, take_token, read_rule, read_rule_far, finish}
use Rattle.mc_grammar.proofs.Ways.{no_place, no_room}
use Rattle.mc_token.specs.Keywords.{keyword_of}
use Rattle.mc_sql.specs.Classes.{Class, word, is_intro, is_called}
use Rattle.mc_sql.specs.Rules.{Rule, Alternative, not, pred, not_option, sum, prim, call}
use Rattle.mc_sql.specs.Rules.{escape_option}
use Rattle.mc_sql.specs.Statements.{statements}
use Rattle.mc_sql.specs.Nest.{deeper}
use Rattle.mc_sql.specs.Completions.{completions}
use Rattle.mc_sql.specs.Tables.{tables}
use Rattle.mc_sql.proofs.Sound.{covers}
use Rattle.mc_sql.proofs.Completing.{completed}

module _ {V : Type 0} (tv : Token → V) (nv : Alternative → List Token → List V → V) where
  abbrev language : Language (Admitted Class) (Roomed Rule) (Roomed Alternative) Token
      (Marked Token) V
  language = room_language statements tables deeper tv nv

  sound : IsSound language
  sound = room_sound statements tables deeper tv nv covers

  complete : Complete language (free_completions completions)
  complete = completed tv nv

  abbrev at : ℕ → Rule → Roomed Rule
  at n r = record { what = r; room = n }

  abbrev behind : Rule → Ahead (Admitted Class)
  behind r = admitted (tables.follows r)

  abbrev the_token : Span → Lexeme → Token
  the_token span kind = record { span = span; kind = kind }

  -- NOT before an operand, at a level that has one below it.
  not_read : (n : ℕ) (s : Span) (v w : List Token) (x : V)
      → Done language (behind not) 1 (at (suc n) not) v w x
      → (value : V) × Done language (behind not) 1 (at (suc (suc n)) not)
      (the_token s (Word (codes "not")) ∷ v) w value
  unfolding keyword_of is_intro is_called
  not_read n s v w x o = (
    _,
    finish language sound (read_rule language sound (take_token language sound
        (choose language sound (sees_next language sound (the_token s (Word (codes "not")) ∷ v)))
        refl) o refl refl (omega arith)),
  )

  -- A parenthesis at the last level.
  parenthesis_too_deep : (s : Span) (v : List Token)
      → IsTooDeep language (behind prim) (at 1 prim) (the_token s (Sym LeftParen) ∷ v)
      (the_token s (Sym LeftParen) ∷ v)
  unfolding keyword_of is_intro is_called
  parenthesis_too_deep s v =
      no_room language sound (free_completions completions) complete
      (choose language sound (sees_next language sound (the_token s (Sym LeftParen) ∷ v))) refl
      (omega arith)

  -- A comma is no operand.
  operand_missing : (n : ℕ) (s : Span) (v : List Token)
      → Fails language (behind prim) (at (suc n) prim) (the_token s (Sym Comma) ∷ v)
      (the_token s (Sym Comma) ∷ v)
  unfolding keyword_of is_intro is_called
  operand_missing n s v =
      no_place language sound (free_completions completions) complete (enter language _ _ _)
      (sees_next language sound (the_token s (Sym Comma) ∷ v)) refl (omega arith)

  -- A word before a parenthesis is that of a call, the same word before a comma is a column.
  call_chosen : (n : ℕ) (s u : Span) (v w : List Token) (x : V)
      → Done language (behind call) 1 (at (suc n) call)
      (the_token s (Word (codes "f")) ∷ the_token u (Sym LeftParen) ∷ v) w x
      → (value : V) × Done language (behind prim) 1 (at (suc n) prim)
      (the_token s (Word (codes "f")) ∷ the_token u (Sym LeftParen) ∷ v) w value
  unfolding keyword_of is_intro is_called
  call_chosen n s u v w x o = (
    _,
    finish language sound (read_rule_far language sound
        (choose language sound (sees_two language sound
        (the_token s (Word (codes "f")) ∷ the_token u (Sym LeftParen) ∷ v))) o refl refl
        (omega (arith, done_takes language sound _ _ _ _ _ _ refl o))),
  )

  column_chosen : (n : ℕ) (s u : Span) (v : List Token)
      → (value : V) × Done language (behind prim) 1 (at (suc n) prim)
      (the_token s (Word (codes "count")) ∷ the_token u (Sym Comma) ∷ v)
      (the_token u (Sym Comma) ∷ v) value
  unfolding keyword_of is_intro is_called
  column_chosen n s u v = (
    _,
    finish language sound (look language sound (take_token language sound
        (choose language sound (sees_two language sound
        (the_token s (Word (codes "count")) ∷ the_token u (Sym Comma) ∷ v))) refl)
        (sees_next language sound (the_token u (Sym Comma) ∷ v))),
  )

  -- LIKE behind a first operand, where five alternatives begin with one.
  like_read : (n : ℕ) (s : Span) (u v w y : List Token) (a b e none : V)
      → Done language (behind sum) 1 (at (suc n) sum) u (the_token s (Word (codes "like")) ∷ v) a
      → Done language (behind not_option) 1 (at (suc n) not_option)
      (the_token s (Word (codes "like")) ∷ v) (the_token s (Word (codes "like")) ∷ v) none
      → Done language (behind sum) 1 (at (suc n) sum) v w b
      → Done language (behind escape_option) 1 (at (suc n) escape_option) w y e
      → (value : V) × Done language (behind pred) 1 (at (suc n) pred) u y value
  unfolding keyword_of is_intro is_called
  like_read n s u v w y a b e none first without second rest = (
    _,
    finish language sound (read_rule language sound (read_rule language sound (take_token language
        sound (read_rule language sound (look language sound (read_rule language sound
        (enter language _ _ _) first refl refl (omega arith))
        (sees_next language sound (the_token s (Word (codes "like")) ∷ v)))
        without refl refl (omega arith)) refl) second refl refl (omega arith))
        rest refl refl (omega arith)),
  )

  -- ESCAPE with no string behind it is no clause, where an alias may follow.
  escape_left : (n : ℕ) (s u : Span) (v : List Token)
      → (value : V) × Done language (behind escape_option) 2 (at (suc n) escape_option)
      (the_token s (Word (codes "escape")) ∷ the_token u (Sym Comma) ∷ v)
      (the_token s (Word (codes "escape")) ∷ the_token u (Sym Comma) ∷ v) value
  unfolding keyword_of is_intro is_called
  escape_left n s u v = (
    _,
    finish language sound (choose language sound (sees_not_two language sound
        (the_token s (Word (codes "escape")) ∷ the_token u (Sym Comma) ∷ v)
        (Some (record { class = word (codes "escape"); has_room = true })) refl)),
  )
