-- A mark is known by its spelling.
use Rattle.std.proofs.Common.{◌≡◌, refl, true, false, ℕ, List, [], ◌∷◌}
use Rattle.mc_token.specs.declared.lexeme.Symbol.{Symbol}
use Rattle.mc_token.specs.declared.lexeme.Symbol.TheVariants.{LeftParen, RightParen, Comma, Dot}
use Rattle.mc_token.specs.declared.lexeme.Symbol.TheVariants.{Star, Plus, Minus, Percent, Eq, Ne}
use Rattle.mc_token.specs.declared.lexeme.Symbol.TheVariants.{NeBang, Lt, Le, Gt, Ge, NullEq}
use Rattle.std.specs.Str.{bytes_eq}
use Rattle.mc_token.specs.Marks.{mark_text}

-- The first of the marks with the spelling.
abbrev first_spelled : List ℕ → List Symbol → Symbol
first_spelled text [] = LeftParen
first_spelled text (symbol ∷ symbols) =
    elim (bytes_eq (mark_text symbol) text) [ true ↦ symbol | false ↦ first_spelled text symbols ]

-- The mark of a spelling.
abbrev pub spelled : List ℕ → Symbol
spelled text =
    first_spelled text (
    LeftParen ∷ RightParen ∷ Comma ∷ Dot ∷ Star ∷ Plus ∷ Minus ∷ Percent ∷
    Eq ∷ Ne ∷ NeBang ∷ Lt ∷ Le ∷ Gt ∷ Ge ∷ NullEq ∷ [])

pub spelled-spelling : (symbol : Symbol) → spelled (mark_text symbol) ≡ symbol
spelled-spelling LeftParen = refl
spelled-spelling RightParen = refl
spelled-spelling Comma = refl
spelled-spelling Dot = refl
spelled-spelling Star = refl
spelled-spelling Plus = refl
spelled-spelling Minus = refl
spelled-spelling Percent = refl
spelled-spelling Eq = refl
spelled-spelling Ne = refl
spelled-spelling NeBang = refl
spelled-spelling Lt = refl
spelled-spelling Le = refl
spelled-spelling Gt = refl
spelled-spelling Ge = refl
spelled-spelling NullEq = refl
