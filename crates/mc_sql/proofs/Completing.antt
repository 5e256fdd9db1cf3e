-- The completions of the grammar are read.
use Rattle.std.proofs.Common.{◌≡◌, refl, Bool, true, false, List, [], ◌∷◌, IsTrue, Option, Some}
use Rattle.std.proofs.Common.{None}
use Rattle.std.specs.Option.{option_map}
use Rattle.mc_token.specs.declared.lexeme.Token.{Token}
use Rattle.mc_grammar.specs.Grammar.{Symbol, rule}
use Rattle.mc_grammar.specs.Ahead.{every}
use Rattle.mc_grammar.specs.Language.{Language, Reads}
use Rattle.mc_grammar.specs.Completions.{completion, Complete}
use Rattle.mc_grammar.specs.Room.{room_language, free_completions}
use Rattle.mc_grammar.proofs.Search.{Shows, shown, whole_forest, search_readings}
use Rattle.mc_grammar.proofs.Completing.{completes}
use Rattle.mc_grammar.proofs.Rooms.{free_completed}
use Rattle.mc_token.specs.Keywords.{keyword_of}
use Rattle.mc_sql.specs.Classes.{Class, word, mark, name, called, called_otherwise, intro, int, str}
use Rattle.mc_sql.specs.Classes.{national, hex, is_intro, is_called, is_lexeme_of}
use Rattle.mc_token.specs.Marks.{mark_text}
use Rattle.mc_sql.specs.Rules.{Rule, Alternative}
use Rattle.mc_sql.specs.Statements.{statements}
use Rattle.mc_sql.specs.Nest.{deeper}
use Rattle.mc_sql.specs.Completions.{lexeme_of, completions}
use Rattle.mc_sql.specs.Tables.{tables}
use Rattle.mc_sql.proofs.Numbers.{rules, of_each}
use Rattle.std.proofs.lemmas.Slice.Eq.{bytes_eq-Decides}

-- Something is found.
abbrev is_found : {X : Type 0} → Option X → Bool
is_found None = false
is_found (Some x) = true

found_true : {X : Type 0} (o : Option X) → IsTrue (is_found o)
    → option_map (λ x. true) o ≡ Some true
found_true None h = absurd (cc)
found_true (Some x) h = refl

each_read : IsTrue (every (λ r. is_found (whole_forest
    (search_readings statements 30 (rule r ∷ []) (completions.tokens_of_rule r)))) rules)
unfolding keyword_of is_intro is_called
each_read = refl

-- The tokens of each rule are read by it.
pub rule_read : (r : Rule) → Shows statements r (completions.tokens_of_rule r) (λ f. true) true
rule_read r = shown statements 30 r (completions.tokens_of_rule r) (λ f. true) true
    (found_true (whole_forest
    (search_readings statements 30 (rule r ∷ []) (completions.tokens_of_rule r)))
    (of_each (λ q. is_found (whole_forest
    (search_readings statements 30 (rule q ∷ []) (completions.tokens_of_rule q)))) each_read r))

-- The lexeme of each class is of it.
pub class_met : (k : Class) → IsTrue (is_lexeme_of k (lexeme_of k))
unfolding keyword_of is_intro is_called
class_met (word text) = (bytes_eq-Decides text text).1 refl
class_met (mark symbol) = (bytes_eq-Decides (mark_text symbol) (mark_text symbol)).1 refl
class_met name = refl
class_met called = refl
class_met called_otherwise = refl
class_met intro = refl
class_met int = refl
class_met str = refl
class_met national = refl
class_met hex = refl

-- The completions as free tokens, where the grammar has room.
pub completed : {V : Type 0} (token_value : Token → V)
    (node_value : Alternative → List Token → List V → V)
    → Complete (room_language statements tables deeper token_value node_value)
    (free_completions completions)
completed token_value node_value =
    free_completed statements tables deeper token_value node_value completions class_met
    (λ r. (rule_read r).forest) (λ r. (rule_read r).reads)

-- The language without marks, room and values.
abbrev plain_language : Language Class Rule Alternative Token Token (List Token)
plain_language = record {
  grammar = statements;
  tables = tables;
  bound = λ token. token;
  free = λ token. token;
  plain = λ token. token;
  token_value = λ token. [];
  node_value = λ a tokens values. tokens;
}

plainly_completed : Complete plain_language completions
plainly_completed = record {
  each_class = class_met;
  each_rule = λ r. record {
    forest = (rule_read r).forest;
    fits = (rule_read r).reads.fits;
    same_tokens = (rule_read r).reads.same_tokens;
  };
}

-- Any symbols read their completion.
pub plainly_read : (symbols : List (Symbol Class Rule))
    → Reads plain_language symbols (completion completions symbols)
plainly_read symbols = completes plain_language completions plainly_completed symbols
