-- The comparisons of classes and rules say what is so.
use Rattle.std.proofs.Common.{◌≡◌, ◌⊎◌, inl, inr, refl, sym, ap, ◌∙◌, subst, ℕ, Bool, true, false}
use Rattle.std.proofs.Common.{not, ◌&&◌, ◌||◌, List, [], ◌∷◌, IsTrue, codes, Option, Some, None}
use Rattle.std.proofs.Common.{nat_eq, arith}
use Rattle.std.proofs.lemmas.Bool.Decides.{nat_tests}
use Rattle.mc_token.specs.declared.lexeme.Lexeme.{Lexeme}
use Rattle.mc_token.specs.declared.lexeme.Lexeme.TheVariants.{Word, Name, Int, Str, National, Hex}
use Rattle.mc_token.specs.declared.lexeme.Lexeme.TheVariants.{Sym}
use Rattle.mc_token.specs.declared.lexeme.Token.{Token}
use Rattle.mc_token.specs.declared.lexeme.Symbol.{Symbol}
use Rattle.mc_grammar.specs.Ahead.{Ahead, every, Meets, Begins, StandsBehind, MeetsWhole}
use Rattle.mc_grammar.specs.Ahead.{BeginsWhole, Covers}
use Rattle.mc_grammar.specs.Apart.{ToldApart}
use Rattle.mc_grammar.proofs.Ahead.{chosen}
use Rattle.mc_token.specs.Marks.{mark_text}
use Rattle.std.specs.Str.{bytes_eq}
use Rattle.std.proofs.lemmas.Slice.Eq.{bytes_eq-Decides}
use Rattle.mc_sql.specs.Classes.{Class, word, mark, name, called, called_otherwise, intro, int, str}
use Rattle.mc_sql.specs.Classes.{national, hex, is_reserved, is_intro, is_called, is_lexeme_of}
use Rattle.mc_sql.specs.Rules.{Rule, statement}
use Rattle.mc_sql.specs.Statements.{statements}
use Rattle.mc_sql.specs.Apart.{are_apart, is_within}
use Rattle.mc_sql.specs.Behind.{behind, behind_call, behind_name}
use Rattle.mc_sql.specs.Tables.{tables, number_of}
use Rattle.mc_sql.proofs.Numbers.{rule_of, rule_of-number}
use Rattle.mc_sql.proofs.Spellings.{spelled, spelled-spelling}
use Rattle.mc_sql.proofs.Decided.{covered, distinct}

same_number : (m n : ℕ) → IsTrue (nat_eq m n) → m ≡ n
same_number m n h = grind (arith, nat_tests)

not_both : (b : Bool) → IsTrue b → IsTrue (not b) → ⊥
not_both true h k = cc
not_both false h k = cc

-- A text is not of a test and equal to one that is not.
apart_by : (test : List ℕ → Bool) (a w : List ℕ) → IsTrue (not (test a)) → IsTrue (bytes_eq w a)
    → IsTrue (test w) → ⊥
apart_by test a w h p q = not_both (test a)
    (subst (λ (x : List ℕ). IsTrue (test x)) ((bytes_eq-Decides w a).0 p) q) h

two_texts : (a b w : List ℕ) → IsTrue (not (bytes_eq a b)) → IsTrue (bytes_eq w a)
    → IsTrue (bytes_eq w b) → ⊥
two_texts a b w h p q =
    let e : a ≡ b = sym ((bytes_eq-Decides w a).0 p) ∙ (bytes_eq-Decides w b).0 q in
    not_both (bytes_eq a b) (subst (λ (x : List ℕ). IsTrue (bytes_eq a x)) e
    ((bytes_eq-Decides a a).1 refl)) h

-- No string.
abbrev is_no_str : Option Class → Bool
is_no_str (Some str) = false
is_no_str _ = true

no_str_meets : (k : Option Class) (token : Token) (tokens : List Token) → IsTrue (is_no_str k)
    → Meets statements k (token ∷ tokens)
    → IsTrue (is_lexeme_of str token.kind) → ⊥
no_str_meets None token tokens h m s = m
no_str_meets (Some k) token tokens h m s = go k token.kind h m s
  where
    of_str : (k : Class) (text : List ℕ) → IsTrue (is_no_str (Some k))
        → IsTrue (is_lexeme_of k (Str text)) → ⊥
    of_str str text h m = cc
    of_str _ text h m = cc

    go : (k : Class) (x : Lexeme) → IsTrue (is_no_str (Some k)) → IsTrue (is_lexeme_of k x)
        → IsTrue (is_lexeme_of str x) → ⊥
    go k (Str text) h m s = of_str k text h m
    go k (Word text) h m s = cc
    go k (Name text) h m s = cc
    go k (Int number) h m s = cc
    go k (National text) h m s = cc
    go k (Hex text) h m s = cc
    go k (Sym symbol) h m s = cc

no_str_begins : (ks : Ahead Class) (token : Token) (tokens : List Token)
    → IsTrue (every is_no_str ks) → Begins statements ks (token ∷ tokens)
    → IsTrue (is_lexeme_of str token.kind) → ⊥
no_str_begins [] token tokens h b s = b
no_str_begins (k ∷ ks) token tokens h b s =
    let p : IsTrue (is_no_str k) × IsTrue (every is_no_str ks) =
    chosen (is_no_str k) (every is_no_str ks) h in
    elim b [
      | inl m ↦ no_str_meets k token tokens p.0 m s
      | inr c ↦ no_str_begins ks token tokens
          p.1 c s
    ]

-- What stands behind a name is no string.
no_str_behind : (tokens : List Token) → Begins statements behind_name tokens
    → Begins statements (Some str ∷ []) tokens → ⊥
no_str_behind [] b (inl c) = c
no_str_behind [] b (inr c) = c
no_str_behind (token ∷ tokens) b (inl c) = no_str_begins behind_name token tokens refl b c
no_str_behind (token ∷ tokens) b (inr c) = c

either_holds : (a b : Bool) → IsTrue (a || b) → IsTrue a ⊎ IsTrue b
either_holds true b h = inl refl
either_holds false b h = inr h

escape_behind : (a : List ℕ) (tokens : List Token) → IsTrue (bytes_eq a (codes "escape"))
    → StandsBehind statements tables (behind (word a)) tokens
    → Begins statements (Some str ∷ []) tokens
escape_behind a tokens h b =
    subst (λ (t : Bool). StandsBehind statements tables
    (elim t [ true ↦ Some (Some str ∷ []) | false ↦ behind_call a ]) tokens) h b

word_or_name : (a w : List ℕ) (tokens : List Token)
    → IsTrue (is_reserved a || bytes_eq a (codes "escape")) → IsTrue (bytes_eq w a)
    → StandsBehind statements tables (behind (word a)) tokens → IsTrue (not (is_reserved w))
    → Begins statements behind_name tokens → ⊥
word_or_name a w tokens h p b q c =
    elim (either_holds (is_reserved a) (bytes_eq a (codes "escape")) h) [
      | inl r ↦ not_both (is_reserved w)
          (subst (λ (x : List ℕ). IsTrue (is_reserved x)) (sym ((bytes_eq-Decides w a).0 p)) r) q
      | inr e ↦ no_str_behind tokens c (escape_behind a tokens e b)
    ]

-- No word is of both classes.
apart_word : (k l : Class) (w : List ℕ) (tokens : List Token) → IsTrue (are_apart k l)
    → IsTrue (is_lexeme_of k (Word w)) → StandsBehind statements tables (behind k) tokens
    → IsTrue (is_lexeme_of l (Word w)) → StandsBehind statements tables (behind l) tokens → ⊥
apart_word (word a) (word o) w tokens h p b q c = two_texts a o w h p q
apart_word (word a) name w tokens h p b q c = word_or_name a w tokens h p b q c
apart_word (word a) called w tokens h p b q c = apart_by is_called a w h p q
apart_word (word a) called_otherwise w tokens h p b q c =
    apart_by (λ x. is_called x && not (bytes_eq x (codes "weight_string"))) a w h p q
apart_word (word a) intro w tokens h p b q c = apart_by is_intro a w h p q
apart_word name (word a) w tokens h p b q c = word_or_name a w tokens h q c p b
apart_word called (word a) w tokens h p b q c = apart_by is_called a w h q p
apart_word called_otherwise (word a) w tokens h p b q c =
    apart_by (λ x. is_called x && not (bytes_eq x (codes "weight_string"))) a w h q p
apart_word intro (word a) w tokens h p b q c = apart_by is_intro a w h q p
apart_word _ _ w tokens h p b q c = cc

-- No lexeme of another kind is of both classes.
apart_mark : (k l : Class) (symbol : Symbol) → IsTrue (are_apart k l)
    → IsTrue (is_lexeme_of k (Sym symbol)) → IsTrue (is_lexeme_of l (Sym symbol)) → ⊥
apart_mark (mark a) (mark o) symbol h p q =
    two_texts (mark_text a) (mark_text o) (mark_text symbol) h p q
apart_mark _ _ symbol h p q = cc

apart_quoted : (k l : Class) (text : List ℕ) → IsTrue (are_apart k l)
    → IsTrue (is_lexeme_of k (Name text)) → IsTrue (is_lexeme_of l (Name text)) → ⊥
apart_quoted name name text h p q = cc
apart_quoted _ _ text h p q = cc

apart_int : (k l : Class) (number : _) → IsTrue (are_apart k l)
    → IsTrue (is_lexeme_of k (Int number)) → IsTrue (is_lexeme_of l (Int number)) → ⊥
apart_int int int number h p q = cc
apart_int _ _ number h p q = cc

apart_str : (k l : Class) (text : List ℕ) → IsTrue (are_apart k l)
    → IsTrue (is_lexeme_of k (Str text)) → IsTrue (is_lexeme_of l (Str text)) → ⊥
apart_str str str text h p q = cc
apart_str _ _ text h p q = cc

apart_national : (k l : Class) (text : List ℕ) → IsTrue (are_apart k l)
    → IsTrue (is_lexeme_of k (National text)) → IsTrue (is_lexeme_of l (National text)) → ⊥
apart_national national national text h p q = cc
apart_national _ _ text h p q = cc

apart_hex : (k l : Class) (text : List ℕ) → IsTrue (are_apart k l)
    → IsTrue (is_lexeme_of k (Hex text)) → IsTrue (is_lexeme_of l (Hex text)) → ⊥
apart_hex hex hex text h p q = cc
apart_hex _ _ text h p q = cc

apart_lexeme : (k l : Class) (x : Lexeme) (tokens : List Token) → IsTrue (are_apart k l)
    → IsTrue (is_lexeme_of k x) → StandsBehind statements tables (behind k) tokens
    → IsTrue (is_lexeme_of l x) → StandsBehind statements tables (behind l) tokens → ⊥
apart_lexeme k l (Word w) tokens h p b q c = apart_word k l w tokens h p b q c
apart_lexeme k l (Name text) tokens h p b q c = apart_quoted k l text h p q
apart_lexeme k l (Int number) tokens h p b q c = apart_int k l number h p q
apart_lexeme k l (Str text) tokens h p b q c = apart_str k l text h p q
apart_lexeme k l (National text) tokens h p b q c = apart_national k l text h p q
apart_lexeme k l (Hex text) tokens h p b q c = apart_hex k l text h p q
apart_lexeme k l (Sym symbol) tokens h p b q c = apart_mark k l symbol h p q

one_class : (k l : Class) → IsTrue (is_within k l) → k ≡ l
one_class (word a) (word o) h = ap (λ x. word x) ((bytes_eq-Decides a o).0 h)
one_class (mark a) (mark o) h =
    ap (λ x. mark x) (sym (spelled-spelling a)
    ∙ ap (λ x. spelled x) ((bytes_eq-Decides (mark_text a) (mark_text o)).0 h) ∙ spelled-spelling o)
one_class name name h = refl
one_class called called h = refl
one_class called_otherwise called_otherwise h = refl
one_class intro intro h = refl
one_class int int h = refl
one_class str str h = refl
one_class national national h = refl
one_class hex hex h = refl
one_class _ _ h = cc

same_rule : (r q : Rule) → IsTrue (nat_eq (number_of r) (number_of q)) → r ≡ q
same_rule r q h =
    let e : number_of r ≡ number_of q = same_number (number_of r) (number_of q) h in
    sym (rule_of-number r) ∙ ap (λ n. rule_of n) e ∙ rule_of-number q

-- FIRST and FOLLOW of the grammar of the statements.
pub covers : Covers statements tables
covers = record {
  apart_classes = λ k l token tokens h m n. apart_lexeme k l token.kind tokens h m.0 m.1 n.0 n.1;
  inner_classes = λ k l token tokens h m. subst
      (λ (c : Class). MeetsWhole statements tables (Some c) (token ∷ tokens)) (one_class k l h) m;
  each_alternative = covered;
}

-- The alternatives of each rule are told apart.
pub told_apart : ToldApart statements tables 16
told_apart = record { covers = covers; same_rules = same_rule; each_rule = distinct }

-- The end of the tokens may follow a statement.
pub ends : BeginsWhole statements tables (tables.follows statement) []
ends = inl tt
