-- The steps of a way through a function that reads a rule of the statements, and how it answers.
use Rattle.std.proofs.Common.{◌≡◌, refl, sym, ap, ◌∙◌, subst, ℕ, ◌+◌, ◌<◌, ◌≤◌, Bool, true, false}
use Rattle.std.proofs.Common.{not, ◌&&◌, ◌||◌, List, [], ◌∷◌, ◌++◌, length, map, IsTrue, Option}
use Rattle.std.proofs.Common.{Some, None, arith}
use Rattle.std.specs.List.{list_any}
use Rattle.mc_base.specs.declared.span.Span.{Span}
use Rattle.mc_token.specs.declared.lexeme.Lexeme.{Lexeme}
use Rattle.mc_token.specs.declared.lexeme.Token.{Token}
use Rattle.mc_grammar.specs.Grammar.{rule}
use Rattle.mc_grammar.specs.Ahead.{Ahead, every, is_within_next}
use Rattle.mc_grammar.specs.Language.{IsSound}
use Rattle.mc_grammar.specs.Places.{Place, behind_next, before, entries, all_pass, all_out}
use Rattle.mc_grammar.specs.Places.{is_barred, is_met, Sees, Inside, Done}
use Rattle.mc_grammar.specs.Chains.{Chain}
use Rattle.mc_grammar.specs.Completions.{Complete}
use Rattle.mc_grammar.specs.Room.{Roomed, Admitted, free_completions}
use Rattle.mc_grammar.proofs.RoomTables.{room_sound}
use Rattle.mc_grammar.proofs.Seeing.{sees_none_of}
use Rattle.mc_grammar.proofs.Inside.{leave, leave_front}
use Rattle.mc_grammar.proofs.Values.{done_takes}
use Rattle.mc_grammar.proofs.Ways as step
use Rattle.mc_sql.specs.Classes.{Class, is_lexeme_of}
use Rattle.mc_sql.specs.Rules.{Rule, Alternative}
use Rattle.mc_sql.specs.Statements.{statements}
use Rattle.mc_sql.specs.Nest.{deeper}
use Rattle.mc_sql.specs.Completions.{completions}
use Rattle.mc_sql.specs.Tables.{tables}
use Rattle.mc_sql.proofs.Sound.{covers}
use Rattle.mc_sql.proofs.Completing.{completed}
use Rattle.mc_ast.specs.Meaning.{meaning}
use Rattle.mc_ast.specs.Spans.{span_of}
use Rattle.mc_ast.specs.Values.{Value, a_token}
use Rattle.mc_parse.specs.declared.fault.Fault.{Fault}
use Rattle.mc_parse.specs.declared.fault.Fault.TheVariants.{NoReading, TooDeep, NoMemory}
use Rattle.mc_parse.specs.Language.{language, at}
use Rattle.mc_parse.specs.Place.{is_missing, are_missing, IsNext}
use Rattle.mc_parse.specs.Read.{IsRead, Cause, IsFault}

-- The language is sound, and its completions are read.
pub sound : IsSound language
sound = room_sound statements tables deeper (λ token. a_token token)
    (λ a tokens values. meaning a (span_of tokens) values) covers

pub complete : Complete language (free_completions completions)
complete = completed (λ token. a_token token) (λ a tokens values. meaning a (span_of tokens) values)

-- Classes of which the next token is none, as what may be met.
abbrev pub let_in : List Class → Ahead (Admitted Class)
let_in ks = map (λ k. Some (record { class = k; has_room = true })) ks

not_met : (k : Class) (ts : List Token) → IsTrue (is_missing k ts)
    → is_met language (Some (record { class = k; has_room = true })) ts ≡ false
not_met k [] h = refl
not_met k (t ∷ ts) h = not_false (is_lexeme_of k t.kind) h
  where
    not_false : (b : Bool) → IsTrue (not b) → b ≡ false
    not_false true h = cc
    not_false false h = refl

parts : (a b : Bool) → IsTrue (a && b) → IsTrue a × IsTrue b
parts true b h = (refl, h)
parts false b h = absurd (cc)

none_met : (ks : List Class) (ts : List Token) → IsTrue (are_missing ks ts)
    → IsTrue (not (list_any (λ o. is_met language o ts) (let_in ks)))
none_met [] ts h = refl
none_met (k ∷ ks) ts h =
    let p : IsTrue (is_missing k ts) × IsTrue (are_missing ks ts) =
    parts (is_missing k ts) (are_missing ks ts) h in
    subst (λ (b : Bool). IsTrue (not (b || list_any (λ o. is_met language o ts) (let_in ks))))
    (sym (not_met k ts p.0)) (none_met ks ts p.1)

pub both_missing : (a b : Bool) → IsTrue a → IsTrue b → IsTrue (a && b)
both_missing true b h k = k
both_missing false b h k = absurd (cc)

pub sees_missing : (ks : List Class) (ts : List Token) → IsTrue (are_missing ks ts)
    → Sees language 1 ts (λ k. not (list_any
    (λ o. is_within_next language.tables.is_within k o) (let_in ks)))
sees_missing ks ts h = sees_none_of language sound ts (let_in ks) (none_met ks ts h)

-- Nothing is left of the alternative, and its tokens stand there.
pub is_read : {after : Ahead (Admitted Class)} {look : ℕ} {r : Rule} {below : ℕ}
    {a : Roomed Alternative} {vs : List Value} {tokens front rest : List Token} {extent : Span}
    → Inside language after look (at below r) (record { alternative = a; left = [] } ∷ []) vs
    tokens front rest
    → extent ≡ span_of front
    → IsRead after look r below tokens rest (meaning a.what (span_of front) vs) extent
is_read p e = record {
  done = leave language sound _ _ _ _ _ _ _ _ p;
  whole = e ∙ ap span_of (sym (leave_front language sound _ _ _ _ _ _ _ _ p));
}

-- A rule that all places want next is not read.
pub is_fault : {after after' : Ahead (Admitted Class)} {n : ℕ} {r q : Rule} {below below' : ℕ}
    {place : Place (Admitted Class) (Roomed Rule) (Roomed Alternative)}
    {places : List (Place (Admitted Class) (Roomed Rule) (Roomed Alternative))}
    {vs : List Value} {tokens front rest : List Token} {fault : Fault}
    → Inside language after n (at below r) (place ∷ places) vs tokens front rest
    → IsFault after' q below' rest fault
    → place ∷ places ≡ before (rule (at below' q)) (behind_next (place ∷ places))
    → IsTrue (all_pass language after (behind_next (place ∷ places)) after') → n ≤ 1
    → IsFault after r below tokens fault
is_fault {after = after} {after' = after'} {r = r} {q = q} {below = below} {below' = below'}
    {place = place} {places = places} {tokens = tokens} {rest = rest} {fault = fault} p o e h lt =
    record { cause = by_cause fault o.cause }
  where
    by_cause : (f : Fault) → Cause after' q below' rest f → Cause after r below tokens f
    by_cause (NoReading left) c = record {
      rest = c.rest;
      fails = step.rule_fails language sound (free_completions completions) complete p c.fails e
          h lt;
      place = c.place;
    }
    by_cause (TooDeep left) c = record {
      rest = c.rest;
      deep = step.rule_too_deep language sound (free_completions completions) complete p c.deep e
          h lt;
      place = c.place;
    }
    by_cause NoMemory c = tt

-- No place wants the next token.
pub is_missed : {after : Ahead (Admitted Class)} {n : ℕ} {r : Rule} {below : ℕ}
    {place : Place (Admitted Class) (Roomed Rule) (Roomed Alternative)}
    {places : List (Place (Admitted Class) (Roomed Rule) (Roomed Alternative))}
    {vs : List Value} {tokens front rest : List Token} {may : Option (Admitted Class) → Bool}
    → Inside language after n (at below r) (place ∷ places) vs tokens front rest
    → Sees language 1 rest may
    → IsTrue (all_out language may after (place ∷ places)) → n ≤ 1
    → IsFault after r below tokens (NoReading (length rest))
is_missed p s h lt = record {
  cause = record {
    rest = _;
    fails = step.no_place language sound (free_completions completions) complete p s h lt;
    place = refl;
  };
}

-- All places want the next token, and there is no level for it.
pub is_barred_here : {after : Ahead (Admitted Class)} {n : ℕ} {r : Rule} {below : ℕ}
    {place : Place (Admitted Class) (Roomed Rule) (Roomed Alternative)}
    {places : List (Place (Admitted Class) (Roomed Rule) (Roomed Alternative))}
    {vs : List Value} {tokens front : List Token} {s : Token} {rest : List Token}
    → Inside language after n (at below r) (place ∷ places) vs tokens front (s ∷ rest)
    → IsTrue (every (λ p. is_barred language s p.left) (place ∷ places)) → n ≤ 1
    → IsFault after r below tokens (TooDeep (length (s ∷ rest)))
is_barred_here p h lt = record {
  cause = record {
    rest = _;
    deep = step.no_room language sound (free_completions completions) complete p h lt;
    place = refl;
  };
}

-- A link of a chain is not read.
pub is_link_fault : {X : Type 0} {after : Ahead (Admitted Class)} {n : ℕ} {more : Rule}
    {below : ℕ} {value : List X → Value} {links : List X} {tokens front rest : List Token}
    {fault : Fault}
    → Chain language after n (at below more) value links tokens front rest
    → IsFault after more below rest fault → n ≤ 1
    → IsFault after more below tokens fault
is_link_fault {after = after} {more = more} {below = below} {tokens = tokens} {rest = rest}
    {fault = fault} p o lt = record { cause = by_cause fault o.cause }
  where
    by_cause : (f : Fault) → Cause after more below rest f → Cause after more below tokens f
    by_cause (NoReading left) c = record {
      rest = c.rest;
      fails = step.link_fails language sound p c.fails lt;
      place = c.place;
    }
    by_cause (TooDeep left) c = record {
      rest = c.rest;
      deep = step.link_too_deep language sound p c.deep lt;
      place = c.place;
    }
    by_cause NoMemory c = tt

-- A rule that is read and may not be empty takes a token.
pub read_takes : {after : Ahead (Admitted Class)} {look : ℕ} {r : Rule} {below : ℕ}
    {tokens rest : List Token} {value : Value} {extent : Span}
    → (o : IsRead after look r below tokens rest value extent)
    → IsTrue (not (tables.may_be_empty r)) → 1 ≤ length o.done.front
read_takes {r = r} {below = below} o h =
    done_takes language sound _ _ (at below r) _ _ _ h o.done

-- What is left behind a token, and behind a rule, is shorter, or no longer.
pub longer : (f g : List Token) → length g ≤ length (f ++ g)
longer [] g = omega arith
longer (t ∷ f) g = let h : length g ≤ length (f ++ g) = longer f g in omega (arith, h)

pub read_shorter : {after : Ahead (Admitted Class)} {look : ℕ} {r : Rule} {below : ℕ}
    {tokens rest : List Token} {value : Value} {extent : Span}
    → IsRead after look r below tokens rest value extent → length rest ≤ length tokens
read_shorter {tokens = tokens} {rest = rest} o =
    subst (λ (x : List Token). length rest ≤ length x) (sym o.done.split) (longer o.done.front rest)

pub next_shorter : {x : Lexeme} {tokens rest : List Token} → IsNext x tokens rest
    → length rest < length tokens
next_shorter {rest = rest} n =
    subst (λ (x : List Token). length rest < length x) (sym n.same) (omega arith)

pub link_shorter : {x : Lexeme} {tokens v rest : List Token} {after : Ahead (Admitted Class)}
    {look : ℕ} {r : Rule} {below : ℕ} {value : Value} {extent : Span} → IsNext x tokens v
    → IsRead after look r below v rest value extent → length rest < length tokens
link_shorter {tokens = tokens} {v = v} {rest = rest} n o =
    let h : length v < length tokens = next_shorter n in
    let k : length rest ≤ length v = read_shorter o in omega (arith, h, k)

-- A token that is next is not missing.
pub begun : {x : Lexeme} {tokens rest : List Token} (k : Class) → IsNext x tokens rest
    → IsTrue (is_lexeme_of k x) → IsTrue (not (is_missing k tokens))
begun {x = x} k n h =
    subst (λ (ts : List Token). IsTrue (not (is_missing k ts))) (sym n.same)
    (twice (is_lexeme_of k x) h)
  where
    twice : (b : Bool) → IsTrue b → IsTrue (not (not b))
    twice true g = refl
    twice false g = cc
