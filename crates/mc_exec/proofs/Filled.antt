-- Lists that are filled by what the members of others give.
use Rattle.std.proofs.Common.{◌≡◌, ℕ, ◌+◌, ◌<◌, ◌≤◌, Bool, false, List, [], ◌∷◌, ◌++◌}
use Rattle.std.proofs.Common.{None, Some, refl, sym, ap, ◌∙◌, append_assoc, drop, get_or, length}
use Rattle.std.proofs.Common.{arith}
use Rattle.std.proofs.lemmas.Bool.{or_parts}
use Rattle.std.proofs.lemmas.List.{drop_all, drop_more, get_or_default}
use Rattle.std.specs.Prelude.{Option, option_and_then, option_map}
use Rattle.std.specs.List.{list_any}
use Rattle.mc_exec.specs.Given.{all_of}
use Rattle.mc_exec.specs.Steps.{GoesOn, appended, shown_with, with_all, with_shown}
use Rattle.mc_exec.specs.Told.{Fails}
use Rattle.mc_exec.specs.declared.fault.ExecFault.{ExecFault}
use Rattle.mc_exec.specs.declared.fault.ExecFault.TheVariants.{OutOfRange, NoMemory}

pub next : {A : Type 0} (xs : List A) (i : ℕ) (x : A) → i < length xs → x ≡ get_or xs i x
    → drop i xs ≡ x ∷ drop (i + 1) xs
next xs i x h e = drop_more xs i x h ∙ ap (λ y. y ∷ drop (i + 1) xs) (sym e)

-- A fault that tells of one want tells of another.
pub fails : {A B : Type 0} (one : Option A) (other : Option B) (fault : ExecFault)
    → (one ≡ None → other ≡ None) → Fails one fault → Fails other fault
fails one other OutOfRange h e = h e
fails one other NoMemory h e = tt

-- So far the counter stood still where none of the members has LIKE, and was never lowered.
pub record LikeLeft {A : Type 0} (like : A → Bool) (xs : List A) (i old new : ℕ) : Type 0 where
  pub still : list_any like xs ≡ false → (new ≡ old) × (list_any like (drop i xs) ≡ false)
  pub later : old ≤ new

pub like_step : {A : Type 0} (like : A → Bool) (xs : List A) (i : ℕ) (x : A) (first old new : ℕ)
    → i < length xs → x ≡ get_or xs i x → LikeLeft like xs i first old
    → GoesOn (like x) old new → LikeLeft like xs (i + 1) first new
like_step like xs i x first old new h e w more = record {
  still = λ none.
      let left = w.still none in
      let both = or_parts (like x) (list_any like (drop (i + 1) xs))
      (sym (ap (list_any like) (next xs i x h e)) ∙ left.1) in
      (more.still both.0 ∙ left.0, both.1);
  later = omega (arith, w.later, more.later);
}

pub at_default : {A : Type 0} (xs : List A) (i : ℕ) (d : A) → i < length xs
    → get_or xs i d ≡ get_or xs i (get_or xs i d)
at_default xs i d h = get_or_default xs i d (get_or xs i d) h

module _ {A B : Type 0} (given : A → Option B) where
  opened : (found : List B) (x : A) (rest : List A) (o : Option B) → given x ≡ o
      → with_all given found (x ∷ rest)
      ≡ option_and_then (λ more. with_all given more rest) (appended found o)
  unfolding with_all
  opened found x rest None e = ap (option_and_then (λ it. with_all given (found ++ it ∷ []) rest)) e
  opened found x rest (Some it) e = ap (option_and_then (λ it. with_all given
      (found ++ it ∷ []) rest)) e

  -- So far the list has what these members give.
  pub record IsFilled (xs : List A) (first : List B) (i : ℕ) (found : List B) : Type 0 where
    pub told : with_all given found (drop i xs) ≡ with_all given first xs

  stepped : (xs : List A) (i : ℕ) (x : A) (found : List B) (o : Option (List B)) → i < length xs
      → x ≡ get_or xs i x → appended found (given x) ≡ o → with_all given found (drop i xs)
      ≡ option_and_then (λ more. with_all given more (drop (i + 1) xs)) o
  stepped xs i x found o h e k = ap (with_all given found) (next xs i x h e)
      ∙ (opened found x (drop (i + 1) xs) (given x) refl
      ∙ ap (option_and_then (λ more. with_all given more (drop (i + 1) xs))) k)

  pub fill_more : (xs : List A) (first : List B) (i : ℕ) (x : A) (found more : List B)
      → i < length xs → x ≡ get_or xs i x → IsFilled xs first i found
      → appended found (given x) ≡ Some more → IsFilled xs first (i + 1) more
  fill_more xs first i x found more h e s k =
      record { told = sym (stepped xs i x found (Some more) h e k) ∙ s.told }

  pub fill_none : (xs : List A) (first : List B) (i : ℕ) (x : A) (found : List B)
      → i < length xs → x ≡ get_or xs i x → IsFilled xs first i found
      → appended found (given x) ≡ None → with_all given first xs ≡ None
  fill_none xs first i x found h e s k = sym s.told ∙ stepped xs i x found None h e k

  pub fill_end : (xs : List A) (first : List B) (i : ℕ) (found : List B) → length xs ≤ i
      → IsFilled xs first i found → with_all given first xs ≡ Some found
  unfolding with_all
  fill_end xs first i found h s = sym s.told ∙ ap (with_all given found) (drop_all i xs h)

  abbrev behind : List B → Option (List B) → Option (List B)
  behind found more = option_map (λ others. found ++ others) more

  moved : (found : List B) (it : B) (more : Option (List B))
      → behind (found ++ it ∷ []) more ≡ behind found (option_map (λ others. it ∷ others) more)
  moved found it None = refl
  moved found it (Some more) = simp append_assoc

  append_empty : (xs : List B) → xs ++ [] ≡ xs
  append_empty [] = refl
  append_empty (x ∷ xs) = ap (λ l. x ∷ l) (append_empty xs)

  with_all_is : (found : List B) (xs : List A)
      → with_all given found xs ≡ behind found (all_of given xs)
  unfolding with_all all_of
  with_all_is found [] = ap (λ l. Some l) (sym (append_empty found))
  with_all_is found (x ∷ xs) = elim (given x) as (λ o.
      option_and_then (λ it. with_all given (found ++ it ∷ []) xs) o
      ≡ behind found (option_and_then (λ one. option_map (λ others. one ∷ others)
      (all_of given xs)) o)) [
        | None ↦ refl
        | Some it ↦ with_all_is (found ++ it ∷ []) xs ∙ moved found it
            (all_of given xs)
      ]

  same : (o : Option (List B)) → behind [] o ≡ o
  same None = refl
  same (Some l) = refl

  pub all_filled : (xs : List A) → with_all given [] xs ≡ all_of given xs
  all_filled xs = with_all_is [] xs ∙ same (all_of given xs)

  pub keys_filled : (xs : List A) (start : List B) → start ≡ [] → (o : Option (List B))
      → with_all given start xs ≡ o → all_of given xs ≡ o
  keys_filled xs start e o h =
      sym (all_filled xs) ∙ (ap (λ l. with_all given l xs) (sym e) ∙ h)

  -- A list that is filled from nothing, behind others.
  pub put_filled : (found : List (List B)) (xs : List A) (start values : List B)
      (new : List (List B)) → start ≡ [] → with_all given start xs ≡ Some values
      → new ≡ found ++ values ∷ [] → appended found (all_of given xs) ≡ Some new
  put_filled found xs start values new e h n =
      ap (appended found) (sym (all_filled xs) ∙ (ap (λ l. with_all given l xs) (sym e) ∙ h))
      ∙ ap (λ l. Some l) (sym n)

  pub none_filled : {C : Type 0} (f : List B → C) (xs : List A) (start : List B) → start ≡ []
      → with_all given start xs ≡ None → option_map f (all_of given xs) ≡ None
  none_filled f xs start e h =
      ap (option_map f) (sym (all_filled xs) ∙ (ap (λ l. with_all given l xs) (sym e) ∙ h))

  -- The same of a list that is shown or not.
  pub put_mapped : {C : Type 0} (f : List B → C) (xs : List A) (start values : List B) (new : C)
      → start ≡ [] → with_all given start xs ≡ Some values → new ≡ f values
      → option_map f (all_of given xs) ≡ Some new
  put_mapped f xs start values new e h n =
      ap (option_map f) (sym (all_filled xs) ∙ (ap (λ l. with_all given l xs) (sym e) ∙ h))
      ∙ ap (λ l. Some l) (sym n)

  -- Rows that are shown so far.
  pub record IsShownSoFar (limit : Option (ℕ × ℕ)) (xs : List A) (first : List B) (i : ℕ)
      (shown : List B) : Type 0 where
    pub told : with_shown given limit i shown (drop i xs) ≡ with_shown given limit 0 first xs

  opened_shown : (limit : Option (ℕ × ℕ)) (i : ℕ) (shown : List B) (x : A) (rest : List A)
      (o : Option B) → given x ≡ o → with_shown given limit i shown (x ∷ rest)
      ≡ option_and_then (λ more. with_shown given limit (i + 1) more rest)
      (option_map (shown_with limit i shown) o)
  unfolding with_shown
  opened_shown limit i shown x rest None e = ap (option_and_then
      (λ it. with_shown given limit (i + 1) (shown_with limit i shown it) rest)) e
  opened_shown limit i shown x rest (Some it) e = ap (option_and_then
      (λ one. with_shown given limit (i + 1) (shown_with limit i shown one) rest)) e

  stepped_shown : (limit : Option (ℕ × ℕ)) (xs : List A) (i : ℕ) (x : A) (shown : List B)
      (o : Option (List B)) → i < length xs → x ≡ get_or xs i x
      → option_map (shown_with limit i shown) (given x) ≡ o
      → with_shown given limit i shown (drop i xs)
      ≡ option_and_then (λ more. with_shown given limit (i + 1) more (drop (i + 1) xs)) o
  stepped_shown limit xs i x shown o h e k =
      ap (with_shown given limit i shown) (next xs i x h e)
      ∙ (opened_shown limit i shown x (drop (i + 1) xs) (given x) refl
      ∙ ap (option_and_then (λ more. with_shown given limit (i + 1) more (drop (i + 1) xs))) k)

  pub show_more : (limit : Option (ℕ × ℕ)) (xs : List A) (first : List B) (i : ℕ) (x : A)
      (shown more : List B) → i < length xs → x ≡ get_or xs i x
      → IsShownSoFar limit xs first i shown
      → option_map (shown_with limit i shown) (given x) ≡ Some more
      → IsShownSoFar limit xs first (i + 1) more
  show_more limit xs first i x shown more h e s k =
      record { told = sym (stepped_shown limit xs i x shown (Some more) h e k) ∙ s.told }

  pub show_none : (limit : Option (ℕ × ℕ)) (xs : List A) (first : List B) (i : ℕ) (x : A)
      (shown : List B) → i < length xs → x ≡ get_or xs i x
      → IsShownSoFar limit xs first i shown
      → option_map (shown_with limit i shown) (given x) ≡ None
      → with_shown given limit 0 first xs ≡ None
  show_none limit xs first i x shown h e s k =
      sym s.told ∙ stepped_shown limit xs i x shown None h e k

  pub show_more_at : (limit : Option (ℕ × ℕ)) (xs : List A) (first : List B) (i : ℕ) (d : A)
      (shown more : List B) → i < length xs → IsShownSoFar limit xs first i shown
      → option_map (shown_with limit i shown) (given (get_or xs i d)) ≡ Some more
      → IsShownSoFar limit xs first (i + 1) more
  show_more_at limit xs first i d shown more h s k =
      show_more limit xs first i (get_or xs i d) shown more h (at_default xs i d h) s k

  pub show_fails_at : (limit : Option (ℕ × ℕ)) (xs : List A) (first : List B) (i : ℕ) (d : A)
      (shown : List B) (fault : ExecFault) → i < length xs → IsShownSoFar limit xs first i shown
      → Fails (option_map (shown_with limit i shown) (given (get_or xs i d))) fault
      → Fails (with_shown given limit 0 first xs) fault
  show_fails_at limit xs first i d shown fault h s k =
      fails (option_map (shown_with limit i shown) (given (get_or xs i d)))
      (with_shown given limit 0 first xs) fault
      (show_none limit xs first i (get_or xs i d) shown h (at_default xs i d h) s) k

  pub show_end : (limit : Option (ℕ × ℕ)) (xs : List A) (first : List B) (i : ℕ)
      (shown : List B) → length xs ≤ i → IsShownSoFar limit xs first i shown
      → with_shown given limit 0 first xs ≡ Some shown
  unfolding with_shown
  show_end limit xs first i shown h s =
      sym s.told ∙ ap (with_shown given limit i shown) (drop_all i xs h)
