-- The keyword found is the one that is spelled so.
use Rattle.std.proofs.Common.{◌≡◌, ◌≢◌, ℕ, Bool, true, inl, inr, List, [], ◌∷◌, Option, Some, None, length, refl, ap, sym, subst, ◌∙◌}
use Rattle.std.specs.Prelude.{MatchOption, find}
use Rattle.std.specs.Str.{bytes_eq}
use Rattle.std.proofs.lemmas.Option.{same_Some}
use Rattle.std.proofs.lemmas.Slice.Eq.{bytes_eq-Decides}
use Rattle.mc_token.specs.Keywords.{keyword_text, keywords_of_len, keyword_of}
use Rattle.mc_token.specs.declared.keyword.Keyword.{Keyword}
use Rattle.mc_token.specs.declared.keyword.Keyword.TheVariants.{Select, Distinct, From, Where, Group, By, Order, Asc, Desc, Limit, As, And, Or, Xor, Not, Is, Null, Like, In, Between, Collate, Div, Mod, Explain, Convert, Using, True, False, Character, Set, Char, Binary, Both, Leading, Trailing, For, Offset, Escape, Cast, Count, Trim, Substring, WeightString}
use Rattle.mc_token.proofs.Choices.{which}

-- Each keyword is found by its text.
text-keyword : (keyword : Keyword) → keyword_of (keyword_text keyword) ≡ Some keyword
unfolding keyword_of
text-keyword Select = refl
text-keyword Distinct = refl
text-keyword From = refl
text-keyword Where = refl
text-keyword Group = refl
text-keyword By = refl
text-keyword Order = refl
text-keyword Asc = refl
text-keyword Desc = refl
text-keyword Limit = refl
text-keyword As = refl
text-keyword And = refl
text-keyword Or = refl
text-keyword Xor = refl
text-keyword Not = refl
text-keyword Is = refl
text-keyword Null = refl
text-keyword Like = refl
text-keyword In = refl
text-keyword Between = refl
text-keyword Collate = refl
text-keyword Div = refl
text-keyword Mod = refl
text-keyword Explain = refl
text-keyword Convert = refl
text-keyword Using = refl
text-keyword True = refl
text-keyword False = refl
text-keyword Character = refl
text-keyword Set = refl
text-keyword Char = refl
text-keyword Binary = refl
text-keyword Both = refl
text-keyword Leading = refl
text-keyword Trailing = refl
text-keyword For = refl
text-keyword Offset = refl
text-keyword Escape = refl
text-keyword Cast = refl
text-keyword Count = refl
text-keyword Trim = refl
text-keyword Substring = refl
text-keyword WeightString = refl

-- What is found passes the test.
find-passes : (test : Keyword → Bool) (keywords : List Keyword) (keyword : Keyword)
    → find test keywords ≡ Some keyword → test keyword ≡ true
find-passes test [] keyword e = absurd (cc)
find-passes test (first ∷ keywords) keyword e = elim (which (test first) _ _ _ e) [
  | inl w ↦ subst (λ k. test k ≡ true) (same_Some first keyword w.1) w.0
  | inr w ↦ find-passes test keywords keyword w.1
]

found-text : (word : List ℕ) (keyword : Keyword) → keyword_of word ≡ Some keyword
    → word ≡ keyword_text keyword
unfolding keyword_of
found-text word keyword e = (bytes_eq-Decides word (keyword_text keyword)).0
    (find-passes (λ k. bytes_eq word (keyword_text k)) (keywords_of_len (length word)) keyword e)

-- The answer is the one keyword that the word is, or there is none.
pub keyword_exact : (found : Option Keyword) (word : List ℕ) → found ≡ keyword_of word
    → MatchOption found ((keyword : Keyword) → word ≢ keyword_text keyword)
    (λ keyword. word ≡ keyword_text keyword)
keyword_exact (Some keyword) word e = found-text word keyword (sym e)
keyword_exact None word e = λ keyword same.
    let found : None ≡ Some keyword = e ∙ ap keyword_of same ∙ text-keyword keyword in cc
