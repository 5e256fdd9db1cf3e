-- The levels of a reading are its nests.
use Rattle.std.proofs.Common.{◌≡◌, refl, sym, ap, ◌∙◌, ℕ, suc, ◌+◌, ◌-◌, Bool, true, false}
use Rattle.std.proofs.Common.{not, ◌&&◌, List, [], ◌∷◌, ◌++◌, length, map, IsTrue, arith}
use Rattle.std.proofs.lemmas.List.{map-append, length-append}
use Rattle.std.proofs.lemmas.Slice.Eq.{bytes_eq-Decides}
use Rattle.mc_token.specs.Marks.{mark_text}
use Rattle.mc_token.specs.declared.lexeme.Lexeme.{Lexeme}
use Rattle.mc_token.specs.declared.lexeme.Lexeme.TheVariants.{Word, Name, Int, Str, National}
use Rattle.mc_token.specs.declared.lexeme.Lexeme.TheVariants.{Hex, Sym}
use Rattle.mc_token.specs.declared.lexeme.Symbol.{Symbol as Mark}
use Rattle.mc_token.specs.declared.lexeme.Symbol.TheVariants.{LeftParen, RightParen}
use Rattle.mc_token.specs.declared.lexeme.Token.{Token}
use Rattle.mc_grammar.specs.Grammar.{Symbol, one, rule}
use Rattle.mc_grammar.specs.Reading.{Forest, bare, leaf, node, tokens_of, IsOneOf, Fits, IsReading}
use Rattle.mc_grammar.specs.Ahead.{every}
use Rattle.mc_grammar.specs.Nest.{first_mark, other_marks, Nested, level_at, nested}
use Rattle.mc_grammar.proofs.Ahead.{both, every_one}
use Rattle.mc_sql.specs.Classes.{Class, mark, is_lexeme_of}
use Rattle.mc_sql.specs.Rules.{Rule, Alternative, alternatives, negated, minus}
use Rattle.mc_sql.specs.Statements.{symbols, statements}
use Rattle.mc_sql.specs.Nest.{deeper, open_behind, open_parentheses, is_prefixed, prefixes, sums}
use Rattle.mc_sql.specs.Nest.{nests}
use Rattle.mc_sql.proofs.Numbers.{rules, of_each}
use Rattle.mc_sql.proofs.Spellings.{spelled, spelled-spelling}

-- Whether a symbol opens or closes parentheses.
data Side : Type 0 where
  opening closing neither : Side

abbrev side_of : Symbol Class Rule → Side
side_of (one (mark LeftParen)) = opening
side_of (one (mark RightParen)) = closing
side_of _ = neither

abbrev turned : Side → ℕ → ℕ
turned opening n = suc n
turned closing n = n - 1
turned neither n = n

-- Inside parentheses behind a symbol, where one is inside or not before it.
abbrev inside_behind : Side → Bool → Bool
inside_behind opening inside = true
inside_behind closing inside = false
inside_behind neither inside = inside

-- The mark of a symbol is as parentheses stand; they do not stand in each other.
abbrev agrees_here : Side → Bool → Bool → Bool
agrees_here opening false true = true
agrees_here closing true false = true
agrees_here neither true true = true
agrees_here neither false false = true
agrees_here _ _ _ = false

abbrev agrees : Bool → List (Symbol Class Rule) → List Bool → Bool
agrees inside [] marks = not inside
agrees inside (s ∷ ss) marks =
    agrees_here (side_of s) inside (first_mark marks)
    && agrees (inside_behind (side_of s) inside) ss (other_marks marks)

-- The marks of an alternative where NOT and unary minus are counted apart.
abbrev inner_marks : Alternative → List Bool
inner_marks a = elim (is_prefixed a) [ true ↦ [] | false ↦ deeper a ]

each_agrees : IsTrue (every (λ r. every (λ a. agrees false (symbols a) (inner_marks a))
    (alternatives r)) rules)
each_agrees = refl

inner_agrees : (r : Rule) (a : Alternative) → IsOneOf a (alternatives r)
    → IsTrue (agrees false (symbols a) (inner_marks a))
inner_agrees r a i =
    every_one (λ b. agrees false (symbols b) (inner_marks b)) a (alternatives r)
    (of_each (λ q. every (λ b. agrees false (symbols b) (inner_marks b)) (alternatives q))
    each_agrees r) i

-- What a lexeme opens and closes is what its class does.
impossible : IsTrue false → ⊥
impossible h = cc

unmarked_turns : (k : Class) (x : Lexeme) (n : ℕ)
    → ((s : Mark) → IsTrue (is_lexeme_of (mark s) x) → ⊥) → IsTrue (is_lexeme_of k x)
    → n ≡ turned (side_of (one k)) n
unmarked_turns (mark s) x n none h = absurd (none s h)
unmarked_turns _ x n none h = refl

mark_turns : (s : Mark) (n : ℕ) → open_behind n (Sym s) ≡ turned (side_of (one (mark s))) n
mark_turns LeftParen n = refl
mark_turns RightParen n = refl
mark_turns _ n = refl

of_mark : (k : Class) (s : Mark) → IsTrue (is_lexeme_of k (Sym s)) → k ≡ mark s
of_mark (mark o) s h =
    ap (λ x. mark x) (sym (spelled-spelling o)
    ∙ ap (λ x. spelled x) (sym ((bytes_eq-Decides (mark_text s) (mark_text o)).0 h))
    ∙ spelled-spelling s)
of_mark _ s h = cc

lexeme_turns : (k : Class) (x : Lexeme) (n : ℕ) → IsTrue (is_lexeme_of k x)
    → open_behind n x ≡ turned (side_of (one k)) n
lexeme_turns k (Word w) n h = unmarked_turns k (Word w) n (λ s m. impossible m) h
lexeme_turns k (Name w) n h = unmarked_turns k (Name w) n (λ s m. impossible m) h
lexeme_turns k (Int i) n h = unmarked_turns k (Int i) n (λ s m. impossible m) h
lexeme_turns k (Str w) n h = unmarked_turns k (Str w) n (λ s m. impossible m) h
lexeme_turns k (National w) n h = unmarked_turns k (National w) n (λ s m. impossible m) h
lexeme_turns k (Hex w) n h = unmarked_turns k (Hex w) n (λ s m. impossible m) h
lexeme_turns k (Sym s) n h =
    mark_turns s n ∙ ap (λ (c : Class). turned (side_of (one c)) n) (sym (of_mark k s h))

-- Where a mark agrees, so do the levels.
level_turned : (side : Side) (inside deep : Bool) (n : ℕ) → IsTrue (agrees_here side inside deep)
    → turned side (level_at inside n) ≡ level_at deep n
level_turned opening false true n h = refl
level_turned closing true false n h = omega arith
level_turned neither true true n h = refl
level_turned neither false false n h = refl
level_turned _ _ _ n h = cc

mark_inside : (side : Side) (inside deep : Bool) → IsTrue (agrees_here side inside deep)
    → deep ≡ inside_behind side inside
mark_inside opening false true h = refl
mark_inside closing true false h = refl
mark_inside neither true true h = refl
mark_inside neither false false h = refl
mark_inside _ _ _ h = cc

level_sum : (deep : Bool) (m n : ℕ) → level_at deep (m + n) ≡ level_at deep m + n
level_sum false m n = refl
level_sum true m n = omega arith

level_sums : (deep more : Bool) (m n : ℕ)
    → level_at more (level_at deep (m + n)) ≡ level_at deep m + level_at more n
level_sums deep false m n = level_sum deep m n
level_sums false true m n = omega arith
level_sums true true m n = omega arith

-- NOT and unary minus: all that they have stands one level deeper.
prefixed_marks : (k : Class) (r : Rule) (level : ℕ) (x : Forest Alternative Token)
    → Fits statements (one k ∷ rule r ∷ []) x
    → nested deeper level (true ∷ true ∷ []) x ≡ nested deeper (suc level) [] x
prefixed_marks k r level bare p = absurd p
prefixed_marks k r level (node a x f) p = absurd p
prefixed_marks k r level (leaf t bare) p = absurd p.1
prefixed_marks k r level (leaf t (leaf u f)) p = absurd p.1
prefixed_marks k r level (leaf t (node a x bare)) p = refl
prefixed_marks k r level (leaf t (node a x (leaf u f))) p = absurd p.1.2
prefixed_marks k r level (leaf t (node a x (node b y f))) p = absurd p.1.2

same_marks : (a : Alternative) (level : ℕ) (x : Forest Alternative Token)
    → Fits statements (symbols a) x
    → nested deeper level (deeper a) x
    ≡ nested deeper (level_at (is_prefixed a) level) (inner_marks a) x
same_marks negated level x p = prefixed_marks _ _ level x p
same_marks minus level x p = prefixed_marks _ _ level x p
same_marks _ level x p = refl

-- How many parentheses are open behind all of the tokens.
abbrev open_at_end : ℕ → List Token → ℕ
open_at_end before [] = before
open_at_end before (token ∷ tokens) = open_at_end (open_behind before token.kind) tokens

open_append : (n : ℕ) (ts us : List Token) → open_parentheses n (ts ++ us)
    ≡ open_parentheses n ts ++ open_parentheses (open_at_end n ts) us
open_append n [] us = refl
open_append n (t ∷ ts) us =
    ap (λ (x : List ℕ). open_behind n t.kind ∷ x) (open_append (open_behind n t.kind) ts us)

end_append : (n : ℕ) (ts us : List Token)
    → open_at_end n (ts ++ us) ≡ open_at_end (open_at_end n ts) us
end_append n [] us = refl
end_append n (t ∷ ts) us = end_append (open_behind n t.kind) ts us

sums_append : (ms ns os qs : List ℕ) → length ms ≡ length ns
    → sums (ms ++ os) (ns ++ qs) ≡ sums ms ns ++ sums os qs
sums_append [] [] os qs e = refl
sums_append [] (n ∷ ns) os qs e = absurd (omega (arith, e))
sums_append (m ∷ ms) [] os qs e = absurd (omega (arith, e))
sums_append (m ∷ ms) (n ∷ ns) os qs e =
    ap (λ (x : List ℕ). (m + n) ∷ x) (sums_append ms ns os qs (omega (arith, e)))

open_length : (n : ℕ) (ts : List Token) → length (open_parentheses n ts) ≡ length ts
open_length n [] = refl
open_length n (t ∷ ts) = omega (arith, open_length (open_behind n t.kind) ts)

prefixes_length : (n : ℕ) (f : Forest Alternative Token)
    → length (prefixes n f) ≡ length (tokens_of f)
prefixes_length n bare = refl
prefixes_length n (leaf t f) = omega (arith, prefixes_length n f)
prefixes_length n (node a x f) =
    length-append (prefixes (level_at (is_prefixed a) n) x) (prefixes n f)
    ∙ ap (λ (m : ℕ). m + length (prefixes n f))
    (prefixes_length (level_at (is_prefixed a) n) x)
    ∙ ap (λ (m : ℕ). length (tokens_of x) + m) (prefixes_length n f)
    ∙ sym (length-append (tokens_of x) (tokens_of f))

abbrev levels : List (Nested Token) → List ℕ
levels ns = map (λ n. n.level) ns

-- The trees of symbols have the nests that the parentheses open before them and the prefixes around
-- them give, and close what they open.
record AreNests (inside : Bool) (marks : List Bool) (before around : ℕ)
    (f : Forest Alternative Token) : Type 0 where
  same_levels : levels (nested deeper (before + around) marks f)
      ≡ sums (open_parentheses (level_at inside before) (tokens_of f)) (prefixes around f)
  closed : open_at_end (level_at inside before) (tokens_of f) ≡ before

leaf_nests : (k : Class) (inside : Bool) (marks : List Bool) (before around : ℕ) (t : Token)
    (f : Forest Alternative Token) → IsTrue (is_lexeme_of k t.kind)
    → IsTrue (agrees_here (side_of (one k)) inside (first_mark marks))
    → AreNests (inside_behind (side_of (one k)) inside) (other_marks marks) before around f
    → AreNests inside marks before around (leaf t f)
leaf_nests k inside marks before around t f h agreed rest = record {
  same_levels = ap (λ (n : ℕ). n ∷ levels (nested deeper (before + around) (other_marks marks) f))
      (level_sum (first_mark marks) before around
      ∙ ap (λ (n : ℕ). n + around) (sym now))
      ∙ ap (λ (ns : List ℕ). (open_behind (level_at inside before) t.kind + around) ∷ ns)
      (rest.same_levels ∙ ap (λ (n : ℕ). sums (open_parentheses n (tokens_of f))
      (prefixes around f)) behind);
  closed = ap (λ (n : ℕ). open_at_end n (tokens_of f)) (sym behind) ∙ rest.closed;
}
  where
    now : open_behind (level_at inside before) t.kind ≡ level_at (first_mark marks) before
    now = lexeme_turns k t.kind (level_at inside before) h
        ∙ level_turned (side_of (one k)) inside (first_mark marks) before agreed

    behind : level_at (inside_behind (side_of (one k)) inside) before
        ≡ open_behind (level_at inside before) t.kind
    behind = ap (λ (b : Bool). level_at b before)
        (sym (mark_inside (side_of (one k)) inside (first_mark marks) agreed)) ∙ sym now

node_nests : (inside : Bool) (marks : List Bool) (before around : ℕ) (a : Alternative)
    (x f : Forest Alternative Token) → inside ≡ first_mark marks → Fits statements (symbols a) x
    → AreNests false (inner_marks a) (level_at inside before) (level_at (is_prefixed a) around) x
    → AreNests inside (other_marks marks) before around f
    → AreNests inside marks before around (node a x f)
node_nests inside marks before around a x f e p inner rest = record {
  same_levels = map-append (λ (n : Nested Token). n.level)
      (nested deeper (level_at (first_mark marks) (before + around)) (deeper a) x)
      (nested deeper (before + around) (other_marks marks) f)
      ∙ ap (λ (ns : List ℕ). ns ++ levels (nested deeper (before + around) (other_marks marks) f))
      (inside_levels ∙ inner.same_levels)
      ∙ ap (λ (ns : List ℕ). sums (open_parentheses (level_at inside before) (tokens_of x))
      (prefixes (level_at (is_prefixed a) around) x) ++ ns)
      (rest.same_levels ∙ ap (λ (n : ℕ). sums (open_parentheses n (tokens_of f))
      (prefixes around f)) (sym inner.closed))
      ∙ sym (sums_append (open_parentheses (level_at inside before) (tokens_of x))
      (prefixes (level_at (is_prefixed a) around) x)
      (open_parentheses (open_at_end (level_at inside before) (tokens_of x)) (tokens_of f))
      (prefixes around f) same_length)
      ∙ ap (λ (ns : List ℕ). sums ns (prefixes (level_at (is_prefixed a) around) x
      ++ prefixes around f))
      (sym (open_append (level_at inside before) (tokens_of x) (tokens_of f)));
  closed = end_append (level_at inside before) (tokens_of x) (tokens_of f)
      ∙ ap (λ (n : ℕ). open_at_end n (tokens_of f)) inner.closed ∙ rest.closed;
}
  where
    same_length : length (open_parentheses (level_at inside before) (tokens_of x))
        ≡ length (prefixes (level_at (is_prefixed a) around) x)
    same_length = open_length (level_at inside before) (tokens_of x)
        ∙ sym (prefixes_length (level_at (is_prefixed a) around) x)

    inside_levels :
        levels (nested deeper (level_at (first_mark marks) (before + around)) (deeper a) x)
        ≡ levels (nested deeper (level_at inside before + level_at (is_prefixed a) around)
        (inner_marks a) x)
    inside_levels =
        ap (λ (ns : List (Nested Token)). levels ns)
        (same_marks a (level_at (first_mark marks) (before + around)) x p
        ∙ ap (λ (n : ℕ). nested deeper n (inner_marks a) x)
        (ap (λ (b : Bool). level_at (is_prefixed a) (level_at b (before + around))) (sym e)
        ∙ level_sums inside (is_prefixed a) before around))

not_inside : (inside : Bool) → IsTrue (not inside) → inside ≡ false
not_inside false h = refl
not_inside true h = cc

same_inside : (inside deep : Bool) → IsTrue (agrees_here neither inside deep) → inside ≡ deep
same_inside true true h = refl
same_inside false false h = refl
same_inside _ _ h = cc

are_nests : (ss : List (Symbol Class Rule)) (inside : Bool) (marks : List Bool)
    (before around : ℕ) (f : Forest Alternative Token) → Fits statements ss f
    → IsTrue (agrees inside ss marks) → AreNests inside marks before around f
are_nests [] inside marks before around bare p h = record {
  same_levels = refl;
  closed = ap (λ (b : Bool). level_at b before) (not_inside inside h);
}
are_nests [] inside marks before around (leaf t f) p h = absurd p
are_nests [] inside marks before around (node a x f) p h = absurd p
are_nests (one k ∷ ss) inside marks before around bare p h = absurd p
are_nests (one k ∷ ss) inside marks before around (node a x f) p h = absurd p
are_nests (one k ∷ ss) inside marks before around (leaf t f) p h =
    let tests : IsTrue (agrees_here (side_of (one k)) inside (first_mark marks))
    × IsTrue (agrees (inside_behind (side_of (one k)) inside) ss (other_marks marks)) =
    both (agrees_here (side_of (one k)) inside (first_mark marks))
    (agrees (inside_behind (side_of (one k)) inside) ss (other_marks marks)) h in
    leaf_nests k inside marks before around t f p.0 tests.0
    (are_nests ss (inside_behind (side_of (one k)) inside) (other_marks marks) before around f p.1
    tests.1)
are_nests (rule r ∷ ss) inside marks before around bare p h = absurd p
are_nests (rule r ∷ ss) inside marks before around (leaf t f) p h = absurd p
are_nests (rule r ∷ ss) inside marks before around (node a x f) p h =
    let tests : IsTrue (agrees_here neither inside (first_mark marks))
    × IsTrue (agrees inside ss (other_marks marks)) =
    both (agrees_here neither inside (first_mark marks)) (agrees inside ss (other_marks marks)) h in
    node_nests inside marks before around a x f
    (same_inside inside (first_mark marks) tests.0) p.1
    (are_nests (symbols a) false (inner_marks a) (level_at inside before)
    (level_at (is_prefixed a) around) x p.1 (inner_agrees r a p.0))
    (are_nests ss inside (other_marks marks) before around f p.2 tests.1)

pub levels_nests : (r : Rule) (tokens : List Token) (reading : Forest Alternative Token)
    → IsReading statements r tokens reading
    → map (λ (n : Nested Token). n.level) (nested deeper 0 [] reading) ≡ nests reading
levels_nests r tokens reading p =
    (are_nests (rule r ∷ []) false [] 0 0 reading p.fits refl).same_levels
