-- Where tokens side by side stand.
use Rattle.std.proofs.Common.{◌≡◌, ℕ, ◌≤◌, List, [], ◌∷◌, ◌++◌, length, refl, ap, ◌∙◌, arith}
use Rattle.mc_base.specs.declared.span.Span.{Span}
use Rattle.mc_token.specs.declared.lexeme.Token.{Token}
use Rattle.mc_ast.specs.Spans.{from_to, span_from, span_of}

pub over : (s x : Span) (g : List Token) → from_to s (span_from x g) ≡ span_from (from_to s x) g
over s x [] = refl
over s x (u ∷ g) = refl

pub span_from-append : (s : Span) (f g : List Token)
    → span_from s (f ++ g) ≡ span_from (span_from s f) g
span_from-append s [] g = refl
span_from-append s (t ∷ f) g =
    ap (λ x. from_to s x) (span_from-append t.span f g) ∙ over s (span_from t.span f) g

pub span_of-append : (f g : List Token) → 1 ≤ length f
    → span_of (f ++ g) ≡ span_from (span_of f) g
span_of-append [] g h = absurd (omega (arith, h))
span_of-append (t ∷ f) g h = span_from-append t.span f g

-- A token, and what stands behind it.
pub span_from-one : (s : Span) (t : Token) (h : List Token) → 1 ≤ length h
    → from_to s (span_of h) ≡ span_from s (t ∷ h)
span_from-one s t [] lt = absurd (omega (arith, lt))
span_from-one s t (u ∷ h) lt = refl

pub span_of-one : (t : Token) (h : List Token) → 1 ≤ length h
    → from_to t.span (span_of h) ≡ span_of (t ∷ h)
span_of-one t [] lt = absurd (omega (arith, lt))
span_of-one t (u ∷ h) lt = refl
