-- A statement of a script ends before the first semicolon of the elements behind its start.
use Rattle.std.proofs.Common.{◌≡◌, ℕ, ◌+◌, Bool, true, false, List, [], ◌∷◌, ◌++◌, length, drop, refl, ap, sym, subst, ◌∙◌, arith}
use Rattle.std.proofs.Math.Seq.{drop-append-add}
use Rattle.std.proofs.lemmas.List.{drop-drop}
use Rattle.mc_base.specs.declared.span.Span.{Span}
use Rattle.mc_token.specs.Cover.{Cover, EndsWithin}
use Rattle.mc_token.specs.Cut.{Cut}
use Rattle.mc_token.specs.Elements.{elements}
use Rattle.mc_token.specs.Statements.{is_content, statement_len, statements_in, statements}
use Rattle.mc_token.specs.declared.element.Element.{Element}
use Rattle.mc_token.specs.declared.lexeme.Token.{Token}
use Rattle.mc_token.proofs.CutWhole.{cut_is_elements, elements_are_cut}
use Rattle.mc_token.proofs.Within.{before_end, ends-within}

-- The first statement begins so far behind the place where these bytes begin.
record Begun (at : ℕ) (bytes : List ℕ) (statement : Span) : Type 0 where
  skipped : ℕ
  start_is : statement.start ≡ at + skipped
  end_is : statement.end ≡ statement.start + before_end (drop skipped bytes)

abbrev span_of : ℕ → ℕ → Span
span_of start end = record { start = start; end = end }

begun-here : (at : ℕ) (bytes : List ℕ) (statement : Span)
    → span_of at (at + before_end bytes) ≡ statement → Begun at bytes statement
begun-here at bytes statement e = subst (Begun at bytes) e (record {
  skipped = 0;
  start_is = omega arith;
  end_is = refl;
})

begun-behind : (at : ℕ) (bytes taken behind : List ℕ) (statement : Span) → bytes ≡ taken ++ behind
    → Begun (at + length taken) behind statement → Begun at bytes statement
begun-behind at bytes taken behind statement whole b = record {
  skipped = length taken + b.skipped;
  start_is = omega (arith, b.start_is);
  end_is = b.end_is ∙ ap (λ (l : List ℕ). statement.start + before_end l)
      (sym (drop-append-add taken behind b.skipped)
      ∙ ap (drop (length taken + b.skipped)) (sym whole));
}

first-is : (one other : Span) (more rest : List Span) → one ∷ more ≡ other ∷ rest → one ≡ other
first-is one other more rest e = cc

-- by whether the first element is content, and by those behind it
begun-front : (at : ℕ) (bytes : List ℕ) (part : Element) (parts : List Element)
    (statement : Span) (more : List Span) (content : Bool) → is_content part.kind ≡ content
    → (cut : Cut bytes (part ∷ parts))
    → (statements_in false (at + part.len) parts ≡ statement ∷ more
    → Begun (at + part.len) cut.0 statement)
    → statements_in false at (part ∷ parts) ≡ statement ∷ more → Begun at bytes statement
unfolding statements_in
begun-front at bytes part parts statement more true c cut further e =
    let found : span_of at (at + statement_len (part ∷ parts))
    ∷ statements_in true (at + part.len) parts ≡ statement ∷ more = rw c at e in
    begun-here at bytes statement
    (ap (λ (l : List Element). span_of at (at + statement_len l))
    (sym (cut_is_elements bytes (part ∷ parts) cut)) ∙ first-is _ statement _ more found)
begun-front at bytes part parts statement more false c cut further e =
    let found : statements_in false (at + part.len) parts ≡ statement ∷ more = rw c at e in
    let takes = cut.1 in
    begun-behind at bytes takes.taken cut.0 statement takes.bytes_are
    (subst (λ (n : ℕ). Begun (at + n) cut.0 statement) takes.len_is (further found))

none-begun : (at : ℕ) (statement : Span) (more : List Span)
    → statements_in false at [] ≡ statement ∷ more → ⊥
unfolding statements_in
none-begun at statement more e = cc

begun-by : (at : ℕ) (bytes : List ℕ) (parts : List Element) (statement : Span) (more : List Span)
    → Cut bytes parts → statements_in false at parts ≡ statement ∷ more
    → Begun at bytes statement
begun-by at bytes [] statement more cut e = absurd (none-begun at statement more e)
begun-by at bytes (part ∷ parts) statement more cut e =
    begun-front at bytes part parts statement more (is_content part.kind) refl cut
    (begun-by (at + part.len) cut.0 parts statement more cut.2) e

-- What begins in a statement of the script ends within it.
pub statement-holds : (script : List ℕ) (from : ℕ) (statement : Span) (more : List Span)
    (tokens : List Token) (place : ℕ) (behind : List ℕ)
    → statements script from ≡ statement ∷ more
    → Cover statement.start (drop statement.start script) tokens place behind
    → EndsWithin statement.end place behind
unfolding statements
statement-holds script from statement more tokens place behind e cover =
    let bytes = drop from script in
    let b = begun-by from bytes (elements bytes) statement more
    (elements_are_cut bytes (elements bytes) refl) e in
    let there : drop b.skipped bytes ≡ drop statement.start script =
    drop-drop b.skipped from script ∙ ap (λ n. drop n script) (sym b.start_is) in
    ends-within statement.end statement.start (drop statement.start script) tokens place behind
    (b.end_is ∙ ap (λ (l : List ℕ). statement.start + before_end l) there) cover
