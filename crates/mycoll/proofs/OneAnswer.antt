-- A statement has at most one answer, and leaves at most one state; so have those of a script.
use Rattle.std.proofs.Common.{◌≡◌, List, [], ◌∷◌, ◌++◌, ℕ, zero, suc, take, Some, Result, Ok, Err, refl, sym, ap, subst, ◌∙◌}
use Rattle.std.proofs.lemmas.Option.{same_Some}
use Rattle.mc_ast.specs.declared.statement.Statement.{Statement}
use Rattle.mc_base.specs.declared.refusal.Refusal.{Refusal}
use Rattle.mc_base.specs.declared.span.Span.{Span}
use Rattle.mc_parse.specs.Outcome.{IsParsed, IsTold}
use Rattle.mc_parse.specs.declared.fault.ParseFault.{ParseFault}
use Rattle.mc_parse.specs.declared.fault.ParseFault.TheVariants as parsing
use Rattle.mc_token.specs.Statements.{statements}
use Rattle.mc_token.specs.Tokens.{tokens_of}
use Rattle.mc_token.specs.declared.lexeme.LexFault.{LexFault}
use Rattle.mc_token.specs.declared.lexeme.Token.{Token}
use Rattle.mycoll.specs.Answers.{Answered, AreAll, AreFirst, IsAnswer, read_said}
use Rattle.mycoll.specs.Reading.{Reads, TokensRead, parse_refusal}
use Rattle.mycoll.specs.World.{World, State}
use Rattle.mycoll.specs.declared.said.Said.{Said}

-- The law that this rests on: one thing comes of tokens.
abbrev pub OneOutcome : Type 0
OneOutcome = (tokens : List Token) (end : ℕ) (a b : Result Statement ParseFault)
    → IsParsed tokens end a → IsParsed tokens end b → IsTold a → IsTold b → a ≡ b

same_err : (a b : ParseFault) (x y : Result Statement ParseFault) → x ≡ y → x ≡ Err a → y ≡ Err b → a ≡ b
same_err a b x y e p q = cc

same_ok : (a b : Statement) (x y : Result Statement ParseFault) → x ≡ y → x ≡ Ok a → y ≡ Ok b → a ≡ b
same_ok a b x y e p q = cc

err_ok : (a : ParseFault) (b : Statement) (x y : Result Statement ParseFault) → x ≡ y → x ≡ Err a → y ≡ Ok b → ⊥
err_ok a b x y e p q = cc

-- A fault that is a refusal is told.
fault_told : (fault : ParseFault) (refusal : Refusal) → parse_refusal fault ≡ Some refusal → IsTold (Err fault)
fault_told (parsing.NoReading n) refusal e = tt
fault_told (parsing.TooDeep n) refusal e = tt
fault_told parsing.NoMemory refusal e = cc

read_once : OneOutcome → (end : ℕ) (lexed : Result (List Token) LexFault) (a b : Result Statement Refusal)
    → TokensRead end lexed a → TokensRead end lexed b → a ≡ b
read_once once end (Ok tokens) (Ok a) (Ok b) p q =
    ap (λ (z : Statement). Ok z) (same_ok a b (Ok a) (Ok b) (once tokens end (Ok a) (Ok b) p q tt tt) refl refl)
read_once once end (Ok tokens) (Ok a) (Err r) p q =
    absurd (err_ok q.0 a (Err q.0) (Ok a) (once tokens end (Err q.0) (Ok a) q.1 p (fault_told q.0 r q.2) tt) refl refl)
read_once once end (Ok tokens) (Err r) (Ok b) p q =
    absurd (err_ok p.0 b (Err p.0) (Ok b) (once tokens end (Err p.0) (Ok b) p.1 q (fault_told p.0 r p.2) tt) refl refl)
read_once once end (Ok tokens) (Err r) (Err t) p q =
    let e = same_err p.0 q.0 (Err p.0) (Err q.0) (once tokens end (Err p.0) (Err q.0) p.1 q.1 (fault_told p.0 r p.2) (fault_told q.0 t q.2)) refl refl in
    ap (λ (z : Refusal). Err z) (same_Some r t (sym p.2 ∙ ap parse_refusal e ∙ q.2))
read_once once end (Err fault) (Err r) (Err t) p q = ap (λ (z : Refusal). Err z) (same_Some r t (sym p ∙ q))
read_once once end (Err fault) (Ok a) b p q = absurd p
read_once once end (Err fault) (Err r) (Ok b) p q = absurd q

-- A statement reads at most one way.
pub one_read : OneOutcome → (script : List ℕ) (statement : Span) (a b : Result Statement Refusal)
    → Reads script statement a → Reads script statement b → a ≡ b
one_read once script statement a b p q = read_once once statement.end (tokens_of script statement) a b p q

pub one_answer : OneOutcome → (w : World) (before : State) (script : List ℕ) (statement : Span) (said other : Said) (after behind : State)
    → IsAnswer w before script statement said after → IsAnswer w before script statement other behind
    → (said ≡ other) × (after ≡ behind)
one_answer once w before script statement said other after behind a b =
    let same : a.read ≡ b.read = one_read once script statement a.read b.read a.reads b.reads in (
      a.told ∙ ap (λ (z : Result Statement Refusal). (read_said w before script z).0) same ∙ sym b.told,
      a.left ∙ ap (λ (z : Result Statement Refusal). (read_said w before script z).1) same ∙ sym b.left,
    )

-- Statements one behind the other have at most one list of answers, and leave at most one state.
answered_once : OneOutcome → (w : World) (s : State) (script : List ℕ) (spans : List Span) (said other : List Said) (after behind : State)
    → Answered w s script spans said after → Answered w s script spans other behind
    → (said ≡ other) × (after ≡ behind)
answered_once once w s script [] [] [] after behind a b = (refl, a ∙ sym b)
answered_once once w s script (span ∷ spans) (x ∷ said) (y ∷ other) after behind a b =
    let one = one_answer once w s script span x y a.0 b.0 a.1 b.1 in
    let rest = answered_once once w a.0 script spans said other after behind a.2
    (subst (λ (t : State). Answered w t script spans other behind) (sym one.1) b.2) in
    (ap (λ z. z ∷ said) one.0 ∙ ap (λ more. y ∷ more) rest.0, rest.1)
answered_once once w s script [] (x ∷ said) other after behind a b = absurd a
answered_once once w s script (span ∷ spans) [] other after behind a b = absurd a
answered_once once w s script [] [] (y ∷ other) after behind a b = absurd b
answered_once once w s script (span ∷ spans) (x ∷ said) [] after behind a b = absurd b

pub all_once : OneOutcome → (w : World) (s : State) (script : List ℕ) (said other : List Said)
    → (these : AreAll w s script said) → (those : AreAll w s script other)
    → (said ≡ other) × (these.behind ≡ those.behind)
all_once once w s script said other these those =
    answered_once once w s script (statements script 0) said other these.behind those.behind these.answered those.answered

-- The answers to some first statements are the first ones of all.
answered_first : OneOutcome → (w : World) (s : State) (script : List ℕ) (spans : List Span) (n : ℕ) (said all : List Said) (after behind : State)
    → Answered w s script (take n spans) said after → Answered w s script spans all behind
    → (more : List Said) × (all ≡ said ++ more)
answered_first once w s script spans zero [] all after behind a b = (all, refl)
answered_first once w s script spans zero (x ∷ said) all after behind a b = absurd a
answered_first once w s script [] (suc n) [] all after behind a b = (all, refl)
answered_first once w s script [] (suc n) (x ∷ said) all after behind a b = absurd a
answered_first once w s script (span ∷ spans) (suc n) [] all after behind a b = absurd a
answered_first once w s script (span ∷ spans) (suc n) (x ∷ said) [] after behind a b = absurd b
answered_first once w s script (span ∷ spans) (suc n) (x ∷ said) (y ∷ all) after behind a b =
    let one = one_answer once w s script span x y a.0 b.0 a.1 b.1 in
    let rest = answered_first once w a.0 script spans n said all after behind a.2
    (subst (λ (t : State). Answered w t script spans all behind) (sym one.1) b.2) in
    (rest.0, ap (λ z. z ∷ all) (sym one.0) ∙ ap (λ more. x ∷ more) rest.1)

pub first_of_all : OneOutcome → (w : World) (s : State) (script : List ℕ) (said all : List Said)
    → AreFirst w s script said → AreAll w s script all → (more : List Said) × (all ≡ said ++ more)
first_of_all once w s script said all first these =
    answered_first once w s script (statements script 0) first.count said all first.behind these.behind first.answered these.answered
