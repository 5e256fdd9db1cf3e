-- The text of a string is what its parts stand for.
use Rattle.std.proofs.Common.{◌≡◌, ◌≢◌, ℕ, inl, inr, List, [], ◌∷◌, ◌++◌, refl, ap, sym, subst, ◌∙◌}
use Rattle.std.specs.Prelude.{flat_map}
use Rattle.std.specs.List.{AllByRecursion}
use Rattle.mc_token.specs.Bytes.{backslash}
use Rattle.mc_token.specs.Contents.{StandsFor, Says}
use Rattle.mc_token.specs.Lexemes.{escaped, pair, content}
use Rattle.mc_token.specs.Strings.{IsQuote, IsPlain, IsPair, IsContent}
use Rattle.mc_token.proofs.CutElements.{not_backslash}
use Rattle.mc_token.proofs.CutParts.{is_equal, is_other}

-- A part at the front

plain-front : (quote byte : ℕ) (rest : List ℕ) → IsPlain quote byte
    → content quote (byte ∷ rest) ≡ byte ∷ content quote rest
unfolding content
plain-front quote byte [] h = refl
plain-front quote byte (next ∷ rest) h =
    rw (is_other byte backslash h.1, is_other byte quote h.0) refl

double-front : (quote : ℕ) (rest : List ℕ) → quote ≢ backslash
    → content quote (quote ∷ quote ∷ rest) ≡ quote ∷ content quote rest
unfolding content pair
double-front quote rest apart =
    rw (is_other quote backslash apart, is_equal quote quote refl) refl

escape-front : (quote byte : ℕ) (rest : List ℕ)
    → content quote (backslash ∷ byte ∷ rest) ≡ escaped byte ++ content quote rest
unfolding content pair
escape-front quote byte rest = refl

front : (quote : ℕ) (spelled says rest : List ℕ) → quote ≢ backslash
    → StandsFor quote spelled says
    → content quote (spelled ++ rest) ≡ says ++ content quote rest
front quote spelled says rest apart (inl h) =
    ap (λ l. content quote (l ++ rest)) h.2 ∙ plain-front quote h.0 rest h.1
    ∙ ap (λ l. l ++ content quote rest) (sym h.3)
front quote spelled says rest apart (inr (inl h)) =
    ap (λ l. content quote (l ++ rest)) h.0 ∙ double-front quote rest apart
    ∙ ap (λ l. l ++ content quote rest) (sym h.1)
front quote spelled says rest apart (inr (inr h)) =
    ap (λ l. content quote (l ++ rest)) h.1 ∙ escape-front quote h.0 rest
    ∙ ap (λ l. l ++ content quote rest) (sym h.2)

no_content : (quote : ℕ) → content quote [] ≡ []
unfolding content
no_content quote = refl

of_parts : (quote : ℕ) (parts : List (List ℕ × List ℕ)) → quote ≢ backslash
    → AllByRecursion (λ part. StandsFor quote part.0 part.1) parts
    → content quote (flat_map (λ part. part.0) parts) ≡ flat_map (λ part. part.1) parts
of_parts quote [] apart h = no_content quote
of_parts quote (part ∷ parts) apart h =
    front quote part.0 part.1 (flat_map (λ part. part.0) parts) apart h.0
    ∙ ap (λ l. part.1 ++ l) (of_parts quote parts apart h.1)

-- What the parts say is the text.
pub says_is : (quote : ℕ) (inside text : List ℕ) → IsQuote quote → Says quote inside text
    → text ≡ content quote inside
says_is quote inside text q s =
    s.text_is ∙ sym (of_parts quote s.parts (not_backslash quote q) s.stand)
    ∙ ap (content quote) (sym s.inside_is)

-- The parts of the bytes

says_nothing : (quote : ℕ) → Says quote [] []
says_nothing quote = record { parts = []; stand = tt; inside_is = refl; text_is = refl }

-- One part more.
says_more : (quote : ℕ) (spelled says rest text : List ℕ) → StandsFor quote spelled says
    → Says quote rest text → Says quote (spelled ++ rest) (says ++ text)
says_more quote spelled says rest text h s = record {
  parts = (spelled, says) ∷ s.parts;
  stand = (h, s.stand);
  inside_is = ap (λ l. spelled ++ l) s.inside_is;
  text_is = ap (λ l. says ++ l) s.text_is;
}

plain_stands : (quote byte : ℕ) → IsPlain quote byte → StandsFor quote (byte ∷ []) (byte ∷ [])
plain_stands quote byte h = inl (byte, h, refl, refl)

-- A pair, by its first byte.
record PairSays (quote byte next : ℕ) : Type 0 where
  says : List ℕ
  stands : StandsFor quote (byte ∷ next ∷ []) says

pair_says : (quote byte next : ℕ) → IsPair quote byte next → PairSays quote byte next
pair_says quote byte next (inl h) = record {
  says = escaped next;
  stands = inr (inr (next, ap (λ b. b ∷ next ∷ []) h, refl));
}
pair_says quote byte next (inr h) = record {
  says = quote ∷ [];
  stands = inr (inl (ap (λ b. b ∷ next ∷ []) h.0 ∙ ap (λ b. quote ∷ b ∷ []) h.1, refl));
}

-- Content says some text.
record SaysSome (quote : ℕ) (inside : List ℕ) : Type 0 where
  text : List ℕ
  says : Says quote inside text

some_text : (quote : ℕ) (inside : List ℕ) → IsContent quote inside → SaysSome quote inside
some_text quote [] h = record { text = []; says = says_nothing quote }
some_text quote (byte ∷ []) h = record {
  text = byte ∷ [];
  says = says_more quote (byte ∷ []) (byte ∷ []) [] [] (plain_stands quote byte h)
      (says_nothing quote);
}
some_text quote (byte ∷ next ∷ rest) (inl h) =
    let s = some_text quote (next ∷ rest) h.1 in
    record {
      text = byte ∷ s.text;
      says = says_more quote (byte ∷ []) (byte ∷ []) (next ∷ rest) s.text
          (plain_stands quote byte h.0) s.says;
    }
some_text quote (byte ∷ next ∷ rest) (inr h) =
    let s = some_text quote rest h.1 in
    let p = pair_says quote byte next h.0 in
    record {
      text = p.says ++ s.text;
      says = says_more quote (byte ∷ next ∷ []) p.says rest s.text p.stands s.says;
    }

by_text : (quote : ℕ) (inside text : List ℕ) → IsQuote quote → SaysSome quote inside
    → text ≡ content quote inside → Says quote inside text
by_text quote inside text q s e =
    let one : s.text ≡ text = says_is quote inside s.text q s.says ∙ sym e in
    subst (Says quote inside) one s.says

-- The text is what the parts say.
pub is_said : (quote : ℕ) (inside text : List ℕ) → IsQuote quote → IsContent quote inside
    → text ≡ content quote inside → Says quote inside text
is_said quote inside text q h e = by_text quote inside text q (some_text quote inside h) e
