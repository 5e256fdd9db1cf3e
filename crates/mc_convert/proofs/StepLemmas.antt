-- A conversion that goes over a text step by step.
use Rattle.std.proofs.Common.{◌≡◌, ℕ, ◌+◌, ◌-◌, ◌<◌, ◌≤◌, ◌⊎◌, Bool, true, false, cond, List, [], ◌∷◌, ◌++◌, Option, Some, None, length, take, drop, get_or, map, append_assoc, append-nil, refl, sym, ap, ◌∙◌, subst, arith, inl, inr, zero, suc}
use Rattle.std.specs.Option.{is_some, option_map, option_or}
use Rattle.std.specs.Prelude.{IfSome, MatchOption}
use Rattle.std.proofs.lemmas.Bool.{cases_lt, false≢true}
use Rattle.std.proofs.lemmas.Grind.{common_steps}
use Rattle.std.proofs.lemmas.List.{length-drop, drop-drop, take-append-drop}
use Rattle.std.proofs.Math.Seq.{drop-append_seam, take-append_seam}
use Rattle.mc_charset.specs.declared.charset.Charset.{Charset}
use Rattle.mc_charset.specs.Chars.{spell, spell_all, chars, Spells}
use Rattle.mc_charset.specs.NextChar.{IsFirst}
use Rattle.mc_convert.specs.Conversion.{fits, stand_in, IsFirstUnfit}
use Rattle.mc_convert.specs.Plain.{IsPlain}
use Rattle.mc_convert.specs.Steps.{AppendsEach, FitOrLost, TakesFront, IsLostPlace}
use Rattle.mc_convert.proofs.Classes.{rest_behind}
use Rattle.mc_convert.proofs.Conversions.{Continues, Spells_first, Spells_none, put_parts, stand_ins, all_fit, at_place, within_at, none_left}

-- A single character

only_one : (from to : Charset) (code k : ℕ) → true ≡ fits from to code → k < 1 → fits from to (get_or (code ∷ []) k 0) ≡ true
only_one from to code zero e h = sym e
only_one from to code (suc k) e h = absurd (omega arith)

one_char : (from to : Charset) (code : ℕ) (fit : Bool) → fit ≡ fits from to code → FitOrLost from to (code ∷ []) fit
one_char from to code true e = λ k h. only_one from to code k e h
one_char from to code false e = (code, refl, sym e)

pub TakesFront-char : (from to : Charset) (text old new : List ℕ) (code len : ℕ) (fit : Bool)
    → IsFirst from text code len → chars from text ≡ code ∷ chars from (drop len text)
    → option_map (λ front. old ++ front) (spell to (stand_in from to code)) ≡ Some new
    → fit ≡ fits from to code → TakesFront from to text old new len 1 fit
TakesFront-char from to text old new code len fit i e h f =
    let p = put_parts (spell to (stand_in from to code)) old new h in
    record {
      codes = code ∷ [];
      piece = p.0;
      counted = refl;
      positive = i.positive;
      within = i.within;
      short = i.positive;
      its_chars = e;
      spelled = Spells_first to (stand_in from to code) [] p.0 [] p.1 (Spells_none to) ∙ ap (λ x. Some x) (append-nil p.0);
      written = sym p.2;
      fit_or_lost = one_char from to code fit f;
    }

-- ASCII that both sets spell by its bytes

pub TakesFront-plain : (from to : Charset) (text old new front : List ℕ) (len : ℕ)
    → ((codes front rest : List ℕ) → Spells from codes front → chars from (front ++ rest) ≡ codes ++ chars from rest)
    → front ≡ take len text → 0 < len → len ≤ length text → length front ≡ len → IsPlain from front
    → option_map (λ piece. old ++ piece) (spell_all to front) ≡ Some new → TakesFront from to text old new len len true
TakesFront-plain from to text old new front len fronts e positive within long p h =
    let q = put_parts (spell_all to front) old new h in
    let whole : text ≡ front ++ drop len text = sym (take-append-drop len text) ∙ ap (λ x. x ++ drop len text) (sym e) in
    record {
      codes = front;
      piece = q.0;
      counted = sym long;
      positive = positive;
      within = within;
      short = omega arith;
      its_chars = ap (chars from) whole ∙ fronts front front (drop len text) p.spelled;
      spelled = ap (spell_all to) (stand_ins from to front q.0 (inr p.below) q.1) ∙ q.1;
      written = sym q.2;
      fit_or_lost = all_fit from to front q.0 (inr p.below) q.1;
    }

-- The loop

-- The characters before a place, and the first of them that is lost.
abbrev pub LostBefore : Charset → Charset → List ℕ → ℕ → Option ℕ → Type 0
LostBefore from to text place lost =
    MatchOption lost ((k : ℕ) → k < place → fits from to (get_or (chars from text) k 0) ≡ true)
    (λ at. (at < place) × IsFirstUnfit from to text at)

-- What was written and what is left, at a place in characters.
pub record Reached (from to : Charset) (text rest done : List ℕ) (place : ℕ) (lost : Option ℕ) : Type 0 where
  pub continues : Continues from to text rest done
  pub in_range : place + length rest ≤ length text
  pub left : drop place (chars from text) ≡ chars from rest
  pub lost_before : LostBefore from to text place lost

pub Reached_start : (from to : Charset) (text : List ℕ) → Reached from to text text [] 0 None
Reached_start from to text = record {
  continues = λ more h. h;
  in_range = omega arith;
  left = refl;
  lost_before = λ k h. absurd (omega arith);
}

get_or-drop : (cs : List ℕ) (place k : ℕ) → get_or cs (place + k) 0 ≡ get_or (drop place cs) k 0
get_or-drop cs place k = grind (arith, common_steps)

get_or-front : (codes rest : List ℕ) (k : ℕ) → k < length codes → get_or (codes ++ rest) k 0 ≡ get_or codes k 0
get_or-front codes rest k h = grind (arith, common_steps)

-- The character at a place behind one where these characters begin.
char_behind : (cs codes tail : List ℕ) (place k : ℕ) → drop place cs ≡ codes ++ tail → place ≤ k → k < place + length codes
    → get_or cs k 0 ≡ get_or codes (k - place) 0
char_behind cs codes tail place k d l h =
    let e : k ≡ place + (k - place) = omega arith in
    ap (λ n. get_or cs n 0) e ∙ get_or-drop cs place (k - place) ∙ ap (λ xs. get_or xs (k - place) 0) d
    ∙ get_or-front codes tail (k - place) (omega arith)

all_fit_more : (from to : Charset) (cs codes tail : List ℕ) (place k : ℕ) → drop place cs ≡ codes ++ tail
    → ((j : ℕ) → j < place → fits from to (get_or cs j 0) ≡ true)
    → ((j : ℕ) → j < length codes → fits from to (get_or codes j 0) ≡ true)
    → k < place + length codes → (k < place) ⊎ (place ≤ k) → fits from to (get_or cs k 0) ≡ true
all_fit_more from to cs codes tail place k d before more h (inl l) = before k l
all_fit_more from to cs codes tail place k d before more h (inr l) =
    ap (fits from to) (char_behind cs codes tail place k d l h) ∙ more (k - place) (omega arith)

lost_more : (from to : Charset) (text codes tail : List ℕ) (place : ℕ) (lost : Option ℕ) (fit : Bool)
    → drop place (chars from text) ≡ codes ++ tail → LostBefore from to text place lost → FitOrLost from to codes fit
    → LostBefore from to text (place + length codes) (option_or lost (cond fit None (Some place)))
lost_more from to text codes tail place (Some at) fit d before f = let earlier = before.0 in (omega arith, before.1)
lost_more from to text codes tail place None true d before f =
    λ k h. all_fit_more from to (chars from text) codes tail place k d before f h (cases_lt k place)
lost_more from to text codes tail place None false d before (code, one, unfit) =
    let d' : drop place (chars from text) ≡ code ∷ tail = d ∙ ap (λ cs. cs ++ tail) one in
    let single : length codes ≡ 1 = ap length one in (
      omega (arith, single),
      record {
        within = within_at (chars from text) place code tail d';
        unfit = ap (fits from to) (at_place (chars from text) place code tail d') ∙ unfit;
        earlier_fit = before;
      },
    )

map-append : (f : ℕ → ℕ) (xs ys : List ℕ) → map f (xs ++ ys) ≡ map f xs ++ map f ys
map-append f [] ys = refl
map-append f (x ∷ xs) ys = ap (λ zs. f x ∷ zs) (map-append f xs ys)

-- What one step takes is converted, and the rest is left.
pub Reached_step : (from to : Charset) (text rest done new : List ℕ) (place len count : ℕ) (lost : Option ℕ) (fit : Bool)
    → ((codes more front behind : List ℕ) → Spells to codes front → Spells to more behind → Spells to (codes ++ more) (front ++ behind))
    → Reached from to text rest done place lost → TakesFront from to rest done new len count fit
    → Reached from to text (take (length rest - len) (drop len rest)) new (place + count) (option_or lost (cond fit None (Some place)))
Reached_step from to text rest done new place len count lost fit joins r t =
    let behind = rest_behind len rest in
    let si = stand_in from to in
    let l = ap length behind in
    let d : drop place (chars from text) ≡ t.codes ++ chars from (drop len rest) = r.left ∙ t.its_chars in
    record {
      continues = λ more h.
          let h' : Spells to (map si (chars from (drop len rest))) more = ap (λ b. spell_all to (map si (chars from b))) (sym behind) ∙ h in
          let whole = ap (spell_all to) (ap (map si) t.its_chars ∙ map-append si t.codes (chars from (drop len rest)))
          ∙ joins (map si t.codes) (map si (chars from (drop len rest))) t.piece more t.spelled h' in
          r.continues (t.piece ++ more) whole
          ∙ ap (λ x. Some x) (sym (append_assoc done t.piece more) ∙ ap (λ x. x ++ more) (sym t.written));
      in_range = omega (arith, r.in_range, t.short, t.within, length-drop len rest, l);
      left =
          sym (drop-drop count place (chars from text)) ∙ ap (drop count) d
          ∙ ap (λ n. drop n (t.codes ++ chars from (drop len rest))) t.counted
          ∙ drop-append_seam t.codes (chars from (drop len rest)) ∙ ap (chars from) (sym behind);
      lost_before =
          subst (λ (n : ℕ). LostBefore from to text (place + n) (option_or lost (cond fit None (Some place)))) (sym t.counted)
          (lost_more from to text t.codes (chars from (drop len rest)) place lost fit d r.lost_before t.fit_or_lost);
    }

pub Reached_end : (from to : Charset) (text rest done : List ℕ) (place : ℕ) (lost : Option ℕ)
    → Reached from to text rest done place lost → chars from rest ≡ []
    → Spells to (map (stand_in from to) (chars from text)) done
Reached_end from to text rest done place lost r e =
    r.continues [] (ap (λ cs. spell_all to (map (stand_in from to) cs)) e ∙ Spells_none to) ∙ ap (λ x. Some x) (append-nil done)

lost_end : (from to : Charset) (text : List ℕ) (place : ℕ) (lost : Option ℕ) → length (chars from text) ≤ place
    → LostBefore from to text place lost → IsLostPlace from to text lost
lost_end from to text place (Some at) n h = h.1
lost_end from to text place None n h = λ k l. h k (omega arith)

pub Reached_lost : (from to : Charset) (text rest done : List ℕ) (place : ℕ) (lost : Option ℕ)
    → Reached from to text rest done place lost → chars from rest ≡ [] → IsLostPlace from to text lost
Reached_lost from to text rest done place lost r e =
    lost_end from to text place lost (none_left (chars from text) place (r.left ∙ e)) r.lost_before

lost_found : (from to : Charset) (text : List ℕ) (place : ℕ) (lost : Option ℕ) → is_some lost ≡ true
    → LostBefore from to text place lost → IsLostPlace from to text lost
lost_found from to text place (Some at) e h = h.1
lost_found from to text place None e h = absurd (false≢true e)

-- The first lost character, where one was met.
pub Reached_lost_one : (from to : Charset) (text rest done : List ℕ) (place : ℕ) (lost : Option ℕ)
    → Reached from to text rest done place lost → is_some lost ≡ true → IsLostPlace from to text lost
Reached_lost_one from to text rest done place lost r e = lost_found from to text place lost e r.lost_before

lost_before_end : (from to : Charset) (text : List ℕ) (place n : ℕ) (lost : Option ℕ) → place ≤ n
    → LostBefore from to text place lost → IfSome lost (λ at. at < n)
lost_before_end from to text place n (Some at) l h = let earlier = h.0 in omega arith
lost_before_end from to text place n None l h = tt

pub Reached_within : (from to : Charset) (text rest done : List ℕ) (place : ℕ) (lost : Option ℕ)
    → Reached from to text rest done place lost → IfSome lost (λ at. at < length text)
Reached_within from to text rest done place lost r =
    let in_range = r.in_range in
    lost_before_end from to text place (length text) lost (omega arith) r.lost_before

-- Behind a text that was there

-- What was written behind a text, and what is left, at a place in characters.
pub record ReachedBehind (from to : Charset) (text rest base out : List ℕ) (place : ℕ) (lost : Option ℕ) : Type 0 where
  pub done : List ℕ
  pub behind : out ≡ base ++ done
  pub reached : Reached from to text rest done place lost

pub ReachedBehind_start : (from to : Charset) (text base : List ℕ) → ReachedBehind from to text text base base 0 None
ReachedBehind_start from to text base = record {
  done = [];
  behind = sym (append-nil base);
  reached = Reached_start from to text;
}

pub ReachedBehind_step : (from to : Charset) (text rest base out new : List ℕ) (place len count : ℕ) (lost : Option ℕ) (fit : Bool)
    → ((codes more front behind : List ℕ) → Spells to codes front → Spells to more behind → Spells to (codes ++ more) (front ++ behind))
    → ReachedBehind from to text rest base out place lost → TakesFront from to rest out new len count fit
    → ReachedBehind from to text (take (length rest - len) (drop len rest)) base new (place + count) (option_or lost (cond fit None (Some place)))
ReachedBehind_step from to text rest base out new place len count lost fit joins r t = record {
  done = r.done ++ t.piece;
  behind = t.written ∙ ap (λ x. x ++ t.piece) r.behind ∙ append_assoc base r.done t.piece;
  reached =
      Reached_step from to text rest r.done (r.done ++ t.piece) place len count lost fit joins r.reached
      (record {
        codes = t.codes;
        piece = t.piece;
        counted = t.counted;
        positive = t.positive;
        within = t.within;
        short = t.short;
        its_chars = t.its_chars;
        spelled = t.spelled;
        written = refl;
        fit_or_lost = t.fit_or_lost;
      });
}

pub ReachedBehind_end : (from to : Charset) (text rest base out : List ℕ) (place : ℕ) (lost : Option ℕ)
    → ReachedBehind from to text rest base out place lost → chars from rest ≡ []
    → AppendsEach from to text base out
ReachedBehind_end from to text rest base out place lost r e =
    (r.done, Reached_end from to text rest r.done place lost r.reached e, r.behind)

-- What was there stays in front.
pub ReachedBehind_front : (from to : Charset) (text rest base out : List ℕ) (place : ℕ) (lost : Option ℕ)
    → ReachedBehind from to text rest base out place lost → take (length base) out ≡ base
ReachedBehind_front from to text rest base out place lost r =
    ap (take (length base)) r.behind ∙ take-append_seam base r.done
