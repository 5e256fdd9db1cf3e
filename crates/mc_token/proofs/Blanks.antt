-- How long the space or the comment is that a byte begins.
use Rattle.std.proofs.Common.{◌≡◌, ℕ, ◌+◌, ◌==◌, ◌||◌, Bool, true, false, cond, List, ◌∷◌, Option, Some, None, drop, refl, ap, sym, ◌∙◌}
use Rattle.mc_token.specs.Bytes.{is_space, double_quote, single_quote, slash, semicolon, star}
use Rattle.mc_token.specs.Elements.{line_len, opens_line, opens_block, block_end, quote_end, single, closed, element_of}
use Rattle.mc_token.specs.Tokens.{is_blank, blank_len}
use Rattle.mc_token.specs.declared.element.Element.{Element}
use Rattle.mc_token.specs.declared.element.Kind.TheVariants.{Comment, Quoted, Semicolon, Other}
use Rattle.mc_token.proofs.CutOpenings.{same_first, line_said, block_said, element_space, element_line, element_block}

-- the length of an element that is a blank
abbrev len_of : Element → Option ℕ
len_of element = cond (is_blank element.kind) (Some element.len) None

pub blank-space : (first : ℕ) (behind : List ℕ) → is_space first ≡ true
    → blank_len first behind ≡ Some 1
blank-space first behind h = ap len_of (element_space first behind h)

pub blank-line : (first : ℕ) (behind : List ℕ) → opens_line first behind ≡ true
    → blank_len first behind ≡ Some (1 + line_len behind)
blank-line first behind h = ap len_of (element_line first behind (line_said first behind h))

block-element : (first : ℕ) (behind : List ℕ) → opens_block first behind ≡ true
    → element_of first behind ≡ closed Comment (block_end 1 (drop 1 behind)) behind
block-element first behind h =
    let opened = block_said first behind h in
    let same = same_first first slash behind (star ∷ opened.0) opened.1 in
    ap (λ b. element_of b behind) same.0 ∙ ap (λ l. element_of slash l) same.1
    ∙ element_block opened.0 opened.2
    ∙ sym (ap (λ l. closed Comment (block_end 1 (drop 1 l)) l) same.1)

pub blank-block : (first : ℕ) (behind : List ℕ) (end : ℕ) → opens_block first behind ≡ true
    → Some end ≡ block_end 1 (drop 1 behind) → blank_len first behind ≡ Some (1 + end)
blank-block first behind end h e = ap len_of (block-element first behind h)
    ∙ ap (λ found. len_of (closed Comment found behind)) (sym e)

pub blank-open : (first : ℕ) (behind : List ℕ) → opens_block first behind ≡ true
    → None ≡ block_end 1 (drop 1 behind) → blank_len first behind ≡ None
blank-open first behind h e = ap len_of (block-element first behind h)
    ∙ ap (λ found. len_of (closed Comment found behind)) (sym e)

-- what is neither a space nor a comment
no_len : (semi quoted : Bool) (found : Option ℕ) (behind : List ℕ)
    → len_of (cond semi (single Semicolon) (cond quoted (closed Quoted found behind)
    (single Other))) ≡ None
no_len true quoted found behind = refl
no_len false true (Some end) behind = refl
no_len false true None behind = refl
no_len false false found behind = refl

pub blank-none : (first : ℕ) (behind : List ℕ) → is_space first ≡ false
    → opens_line first behind ≡ false → opens_block first behind ≡ false
    → blank_len first behind ≡ None
unfolding element_of
blank-none first behind space line block =
    rw (space, line, block) (no_len (first == semicolon)
    (first == single_quote || first == double_quote) (quote_end first 0 behind) behind)

pub ruleset blank_steps = (blank-space, blank-line, blank-block, blank-open, blank-none)
