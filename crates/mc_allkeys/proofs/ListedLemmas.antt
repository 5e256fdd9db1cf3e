-- Code points and elements, read one after the other.
use Rattle.std.proofs.Common.{◌≡◌, ℕ, ◌+◌, Bool, true, false, cond, List, [], ◌∷◌, ◌++◌, append_assoc, append-nil, Option, Some, None, option_map, refl, sym, ap, ◌∙◌}
use Rattle.std.specs.Bool.{OnTrue, OnFalse}
use Rattle.std.specs.List.{list_all, slice_split, onto_first}
use Rattle.mc_base.specs.Blanks.{is_blank, without_leading}
use Rattle.mc_base.specs.Fields.{fields_of}
use Rattle.mc_allkeys.specs.Cuts.{parts_at}
use Rattle.mc_allkeys.specs.Listed.{code_of, codes_of, element_at, element_of_parts, elements_of_parts, elements_of}
use Rattle.mc_allkeys.specs.declared.element.Element.{Element}

-- What is read so far stands in front of what the rest gives.
abbrev pub IsFront : {B : Type 0} → Option (List B) → List B → Option (List B) → Type 0
IsFront {B} whole done rest = whole ≡ option_map (λ (more : List B). done ++ more) rest

pub front_none : {B : Type 0} (whole : Option (List B)) (done : List B) → done ≡ [] →
    IsFront whole done whole
front_none None done e = refl
front_none (Some xs) done e = ap (λ (front : List _). Some (front ++ xs)) (sym e)

joined : {B : Type 0} (done : List B) (y : B) (rest : Option (List B)) →
    option_map (λ (more : List B). done ++ more) (option_map (λ (ys : List B). y ∷ ys) rest)
    ≡ option_map (λ (more : List B). (done ++ y ∷ []) ++ more) rest
joined done y None = refl
joined done y (Some ys) = ap Some (sym (append_assoc done (y ∷ []) ys))

-- One more code point.
pub code_more : (whole : Option (List ℕ)) (done : List ℕ) (text field behind : List ℕ) (code : ℕ) →
    IsFront whole done (codes_of text) → fields_of text ≡ field ∷ fields_of behind →
    code_of field ≡ Some code → IsFront whole (done ++ code ∷ []) (codes_of behind)
code_more whole done text field behind code h e c =
    let first : codes_of text ≡ option_map (λ codes. code ∷ codes) (codes_of behind) =
    rw (e, c) refl in
    h ∙ ap (option_map (λ (more : List ℕ). done ++ more)) first
    ∙ joined done code (codes_of behind)

-- A field that is no code point.
pub code_bad : (whole : Option (List ℕ)) (done text field rest : List ℕ) →
    IsFront whole done (codes_of text) → fields_of text ≡ field ∷ fields_of rest →
    code_of field ≡ None → whole ≡ None
code_bad whole done text field rest h e c =
    let first : codes_of text ≡ None = rw (e, c) refl in
    h ∙ ap (option_map (λ (more : List ℕ). done ++ more)) first

-- The last field was read.
pub code_end : (whole : Option (List ℕ)) (done text : List ℕ) → IsFront whole done (codes_of text) →
    fields_of text ≡ [] → whole ≡ Some done
code_end whole done text h e =
    let none : codes_of text ≡ Some [] = rw e refl in
    h ∙ ap (option_map (λ (more : List ℕ). done ++ more)) none ∙ ap Some (append-nil done)

-- There is a first part.
some_part : (p : ℕ → Bool) (xs : List ℕ) →
    (first : List ℕ) × (more : List (List ℕ)) × (slice_split p xs ≡ first ∷ more)
some_part p [] = ([], [], refl)
some_part p (x ∷ xs) = by (p x) (slice_split p xs)
  where
    by : (b : Bool) (parts : List (List ℕ)) →
        (first : List ℕ) × (more : List (List ℕ)) ×
        (cond b ([] ∷ parts) (onto_first x parts) ≡ first ∷ more)
    by true parts = ([], parts, refl)
    by false [] = (x ∷ [], [], refl)
    by false (part ∷ parts) = (x ∷ part, parts, refl)

element_step : (part : List ℕ) (parts : List (List ℕ)) (first : List ℕ) (more : List (List ℕ))
    (found : Option Element) →
    parts ≡ first ∷ more → element_at (without_leading part) ≡ found →
    elements_of_parts (part ∷ parts)
    ≡ Rattle.std.specs.Option.option_and_then
    (λ element. option_map (λ elements. element ∷ elements) (elements_of_parts parts)) found
element_step part parts first more found e c = rw (e, c) refl

-- One more element.
pub element_more : (whole : Option (List Element)) (done : List Element) (text part behind : List ℕ)
    (element : Element) → IsFront whole done (elements_of text) →
    parts_at 93 text ≡ part ∷ parts_at 93 behind →
    element_at (without_leading part) ≡ Some element →
    IsFront whole (done ++ element ∷ []) (elements_of behind)
element_more whole done text part behind element h e c =
    let some = some_part (λ b. Rattle.std.proofs.Common.eqb b 93) behind in
    let first = ap elements_of_parts e
    ∙ element_step part (parts_at 93 behind) some.0 some.1 (Some element) some.2 c in
    h ∙ ap (option_map (λ (more : List Element). done ++ more)) first
    ∙ joined done element (elements_of behind)

-- A part that is no element.
pub element_bad : (whole : Option (List Element)) (done : List Element) (text part behind : List ℕ) →
    IsFront whole done (elements_of text) → parts_at 93 text ≡ part ∷ parts_at 93 behind →
    element_at (without_leading part) ≡ None → whole ≡ None
element_bad whole done text part behind h e c =
    let some = some_part (λ b. Rattle.std.proofs.Common.eqb b 93) behind in
    let first = ap elements_of_parts e
    ∙ element_step part (parts_at 93 behind) some.0 some.1 None some.2 c in
    h ∙ ap (option_map (λ (more : List Element). done ++ more)) first

-- The last part was met.
last_by : (whole : Option (List Element)) (done : List Element) (b : Bool) →
    whole ≡ option_map (λ (more : List Element). done ++ more) (cond b (Some []) None) →
    OnTrue b (whole ≡ Some done) × OnFalse b (whole ≡ None)
last_by whole done true h = (h ∙ ap Some (append-nil done), tt)
last_by whole done false h = (tt, h)

pub element_end : (whole : Option (List Element)) (done : List Element) (text : List ℕ) (b : Bool) →
    IsFront whole done (elements_of text) → parts_at 93 text ≡ text ∷ [] →
    b ≡ list_all is_blank text →
    OnTrue b (whole ≡ Some done) × OnFalse b (whole ≡ None)
element_end whole done text b h e is =
    last_by whole done b
    (h ∙ ap (option_map (λ (more : List Element). done ++ more))
    (ap elements_of_parts e ∙ ap (λ b. cond b (Some []) None) (sym is)))

-- Five parts or more are no element.
five_by : (first second third fourth : List ℕ) (parts : List (List ℕ)) (fifth : List ℕ)
    (more : List (List ℕ)) → parts ≡ fifth ∷ more →
    element_of_parts (first ∷ second ∷ third ∷ fourth ∷ parts) ≡ None
five_by first second third fourth parts fifth more e = rw e refl

pub five_parts : (first second third fourth rest : List ℕ) →
    element_of_parts (first ∷ second ∷ third ∷ fourth ∷ parts_at 46 rest) ≡ None
five_parts first second third fourth rest =
    let some = some_part (λ b. Rattle.std.proofs.Common.eqb b 46) rest in
    five_by first second third fourth (parts_at 46 rest) some.0 some.1 some.2
