-- The statements from a place of a script on, by the element there.
use Rattle.std.proofs.Common.{◌≡◌, ℕ, ◌+◌, ◌<◌, ◌≤◌, Bool, true, false, not, List, [], ◌∷◌, length, drop, refl, ap, sym, arith}
use Rattle.mc_token.specs.Elements.{elements}
use Rattle.mc_token.specs.Statements.{is_end, is_content, statement_len, statements_in}
use Rattle.mc_token.specs.declared.element.Element.{Element}
use Rattle.mc_token.specs.declared.element.Kind.{Kind}
use Rattle.mc_token.specs.declared.element.Kind.TheVariants.{Space, Comment, Quoted, Unclosed, Semicolon, Other}
use Rattle.mc_token.proofs.Elements.{elements-done}

pub statements_in-done : (begun : Bool) (script : List ℕ) (at : ℕ) → length script ≤ at → statements_in begun at (elements (drop at script)) ≡ []
unfolding statements_in
statements_in-done begun script at h = ap (statements_in begun at) (elements-done script at h)

pub statement_len-done : (script : List ℕ) (at : ℕ) → length script ≤ at → statement_len (elements (drop at script)) ≡ 0
unfolding statement_len
statement_len-done script at h = ap statement_len (elements-done script at h)

-- what begins a statement ends none
content_is_no_end : (kind : Kind) → is_content kind ≡ true → is_end kind ≡ false
content_is_no_end Quoted h = refl
content_is_no_end Unclosed h = refl
content_is_no_end Other h = refl
content_is_no_end Space h = cc
content_is_no_end Comment h = cc
content_is_no_end Semicolon h = cc

inside-step : (at : ℕ) (e : Element) (behind : List Element) {ends : Bool} → is_end e.kind ≡ ends
    → statements_in true at (e ∷ behind) ≡ statements_in (not ends) (at + e.len) behind
unfolding statements_in
inside-step at e behind h = ap (λ b. statements_in (not b) (at + e.len) behind) h

-- The element is the first of those that begin at the place.
abbrev pub IsElementAt : List ℕ → ℕ → Element → Type 0
IsElementAt script at e = elements (drop at script) ≡ e ∷ elements (drop (at + e.len) script)

pub content_begins : (script : List ℕ) (at : ℕ) (e : Element) → IsElementAt script at e → is_content e.kind ≡ true
    → statements_in false at (elements (drop at script))
    ≡ record { start = at; end = at + statement_len (elements (drop at script)) } ∷ statements_in true at (elements (drop at script))
unfolding statements_in
content_begins script at e cut content =
    let no_end = content_is_no_end e.kind content in
    rw cut (rw content (ap (λ rest. record { start = at; end = at + statement_len (e ∷ elements (drop (at + e.len) script)) } ∷ rest) (sym (inside-step at e (elements (drop (at + e.len) script)) no_end))))

pub content_is_long : (script : List ℕ) (at : ℕ) (e : Element) → IsElementAt script at e → is_content e.kind ≡ true → 0 < e.len
    → 0 < statement_len (elements (drop at script))
unfolding statement_len
content_is_long script at e cut content long =
    let no_end = content_is_no_end e.kind content in
    rw cut (rw no_end (omega arith))

pub blank_is_skipped : (script : List ℕ) (at : ℕ) (e : Element) → IsElementAt script at e → is_content e.kind ≡ false
    → statements_in false at (elements (drop at script)) ≡ statements_in false (at + e.len) (elements (drop (at + e.len) script))
unfolding statements_in
blank_is_skipped script at e cut blank = rw cut (rw blank)

pub end_is_passed : (script : List ℕ) (at : ℕ) (e : Element) → IsElementAt script at e → is_end e.kind ≡ true
    → statements_in true at (elements (drop at script)) ≡ statements_in false (at + e.len) (elements (drop (at + e.len) script))
unfolding statements_in
end_is_passed script at e cut ends = rw cut (inside-step at e (elements (drop (at + e.len) script)) ends)

pub end_has_no_len : (script : List ℕ) (at : ℕ) (e : Element) → IsElementAt script at e → is_end e.kind ≡ true
    → statement_len (elements (drop at script)) ≡ 0
unfolding statement_len
end_has_no_len script at e cut ends = rw cut (rw ends)

pub statement_goes_on : (script : List ℕ) (at : ℕ) (e : Element) → IsElementAt script at e → is_end e.kind ≡ false
    → statements_in true at (elements (drop at script)) ≡ statements_in true (at + e.len) (elements (drop (at + e.len) script))
unfolding statements_in
statement_goes_on script at e cut inside = rw cut (inside-step at e (elements (drop (at + e.len) script)) inside)

pub statement_has_len : (script : List ℕ) (at : ℕ) (e : Element) → IsElementAt script at e → is_end e.kind ≡ false
    → statement_len (elements (drop at script)) ≡ e.len + statement_len (elements (drop (at + e.len) script))
unfolding statement_len
statement_has_len script at e cut inside = rw cut (rw inside)

pub ruleset statement_steps = (statements_in-done, statement_len-done, content_begins, content_is_long, blank_is_skipped, end_is_passed, end_has_no_len, statement_goes_on, statement_has_len)
