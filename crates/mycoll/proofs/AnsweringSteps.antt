-- The answers so far, and how one more moves them.
use Rattle.std.proofs.Common.{◌≡◌, ℕ, Bool, true, false, ◌||◌, List, [], ◌∷◌, ◌++◌, Option, Some, None, Err, suc, length, take, refl, sym, ◌∙◌, ap, subst, append-nil, append_assoc}
use Rattle.std.proofs.lemmas.Grind.{flat_map-append}
use Rattle.std.proofs.Math.Seq.{take-append_seam}
use Rattle.mc_base.specs.Sink.{appended}
use Rattle.mc_base.specs.declared.span.Span.{Span}
use Rattle.mc_token.specs.Statements.{statements}
use Rattle.mycoll.specs.declared.output.Stopped.{Stopped}
use Rattle.mycoll.specs.declared.output.Stopped.TheVariants.{Fault, NoMemory}
use Rattle.mycoll.specs.declared.said.Said.{Said}
use Rattle.mycoll.specs.Answering.{AnswersWritten, AllWritten, Written}
use Rattle.mycoll.specs.Answers.{IsAnswer, Answered, AreFirst, is_refusal, said_texts, some_refused}
use Rattle.mycoll.specs.SaidTexts.{said_text}
use Rattle.mycoll.specs.World.{World, State}

-- Of the statements of a script these are left: the ones before them were answered, in this state
-- the next one is, some answers are refusals if `refused` says so, and all were written.
pub record IsSoFar (w : World) (s : State) (script : List ℕ) (rest : List Span) (left : State)
    (refused : Bool) (before now : Option (List ℕ)) : Type 0 where
  pub spans : List Span
  pub said : List Said
  pub whole : spans ++ rest ≡ statements script 0
  pub answered : Answered w s script spans said left
  pub told : refused ≡ some_refused said
  pub written : now ≡ appended before (said_texts said)

pub appended-nil : (before : Option (List ℕ)) → appended before [] ≡ before
appended-nil None = refl
appended-nil (Some text) = ap Some (append-nil text)

pub appended-append : (before : Option (List ℕ)) (x y : List ℕ)
    → appended (appended before x) y ≡ appended before (x ++ y)
appended-append None x y = refl
appended-append (Some text) x y = ap Some (append_assoc text x y)

some_refused-append : (xs ys : List Said)
    → some_refused (xs ++ ys) ≡ (some_refused xs || some_refused ys)
some_refused-append [] ys = refl
some_refused-append (x ∷ xs) ys =
    elim (is_refusal x) as (λ b. (b || some_refused (xs ++ ys)) ≡ ((b || some_refused xs) || some_refused ys)) [ true ↦ refl | false ↦ some_refused-append xs ys ]

some_refused-one : (b c : Bool) → (b || (c || false)) ≡ (b || c)
some_refused-one true c = refl
some_refused-one false true = refl
some_refused-one false false = refl

-- The text of one more answer stands behind those so far.
said_texts-push : (said : List Said) (one : Said)
    → said_texts (said ++ one ∷ []) ≡ said_texts said ++ said_text one
said_texts-push said one =
    flat_map-append said_text said (one ∷ []) ∙ ap (λ t. said_texts said ++ t) (append-nil (said_text one))

-- One more statement is answered.
answered-push : (w : World) (s : State) (script : List ℕ) (spans : List Span) (said : List Said) (left : State) (statement : Span) (one : Said) (after : State)
    → Answered w s script spans said left → IsAnswer w left script statement one after
    → Answered w s script (spans ++ statement ∷ []) (said ++ one ∷ []) after
answered-push w s script [] [] left statement one after h a =
    (after, subst (λ (t : State). IsAnswer w t script statement one after) h a, refl)
answered-push w s script (span ∷ spans) (x ∷ said) left statement one after h a =
    (h.0, h.1, answered-push w h.0 script spans said left statement one after h.2 a)
answered-push w s script [] (x ∷ said) left statement one after h a = absurd h
answered-push w s script (span ∷ spans) [] left statement one after h a = absurd h

-- Nothing is done at first.
pub none_so_far : (w : World) (s : State) (script : List ℕ) (before : Option (List ℕ))
    → IsSoFar w s script (statements script 0) s false before before
none_so_far w s script before = record {
  spans = [];
  said = [];
  whole = refl;
  answered = refl;
  told = refl;
  written = sym (appended-nil before);
}

-- One more answer is written.
pub one_more : (w : World) (s : State) (script : List ℕ) (statement : Span) (rest : List Span) (left after : State) (refused : Bool) (before now next : Option (List ℕ)) (one : Said)
    → IsSoFar w s script (statement ∷ rest) left refused before now
    → IsAnswer w left script statement one after → next ≡ appended now (said_text one)
    → IsSoFar w s script rest after (refused || is_refusal one) before next
one_more w s script statement rest left after refused before now next one so a e = record {
  spans = so.spans ++ statement ∷ [];
  said = so.said ++ one ∷ [];
  whole = append_assoc so.spans (statement ∷ []) rest ∙ so.whole;
  answered = answered-push w s script so.spans so.said left statement one after so.answered a;
  told = ap (λ b. b || is_refusal one) so.told ∙ sym (some_refused-append so.said (one ∷ [])
      ∙ some_refused-one (some_refused so.said) (is_refusal one));
  written = e ∙ ap (λ w. appended w (said_text one)) so.written
      ∙ appended-append before (said_texts so.said) (said_text one)
      ∙ ap (appended before) (sym (said_texts-push so.said one));
}

-- Those that were answered are the first ones.
pub are_first : (w : World) (s : State) (script : List ℕ) (rest : List Span) (left : State) (refused : Bool) (before now : Option (List ℕ))
    → (so : IsSoFar w s script rest left refused before now) → AreFirst w s script so.said
are_first w s script rest left refused before now so = record {
  count = length so.spans;
  behind = left;
  answered = subst (λ (spans : List Span). Answered w s script spans so.said left)
      (sym (ap (take (length so.spans)) (sym so.whole) ∙ take-append_seam so.spans rest)) so.answered;
}

-- All statements are answered, where none is left.
pub all_written : (w : World) (s : State) (script : List ℕ) (rest : List Span) (left : State) (refused : Bool) (before now : Option (List ℕ))
    → IsSoFar w s script rest left refused before now → rest ≡ []
    → AllWritten w s script refused before now
all_written w s script rest left refused before now so e = record {
  said = so.said;
  all = record {
    behind = left;
    answered = subst (λ (spans : List Span). Answered w s script spans so.said left)
        (sym (append-nil so.spans) ∙ ap (λ rest. so.spans ++ rest) (sym e) ∙ so.whole) so.answered;
  };
  told = so.told;
  written = so.written;
}

-- Memory ran out before the next answer.
pub stopped_before : (w : World) (s : State) (script : List ℕ) (rest : List Span) (left : State) (refused : Bool) (before now : Option (List ℕ))
    → IsSoFar w s script rest left refused before now
    → AnswersWritten w s script (Err NoMemory) before now
stopped_before w s script rest left refused before now so = record {
  said = so.said;
  first = are_first w s script rest left refused before now so;
  written = so.written;
}

-- Memory ran out before the first answer.
pub none_answered : (w : World) (s : State) (script : List ℕ) (before : Option (List ℕ))
    → AnswersWritten w s script (Err NoMemory) before before
none_answered w s script before =
    stopped_before w s script (statements script 0) s false before before (none_so_far w s script before)

-- A front of y, with x before it, is a front of the whole.
front_behind : (x y : List ℕ) (n : ℕ) → (k : ℕ) × (take k (x ++ y) ≡ x ++ take n y)
front_behind [] y n = (n, refl)
front_behind (b ∷ x) y n = let r = front_behind x y n in (suc r.0, ap (λ t. b ∷ t) r.1)

-- Writing the next answer stopped.
pub stopped_within : (w : World) (s : State) (script : List ℕ) (statement : Span) (rest : List Span) (left after : State) (refused : Bool) (before now next : Option (List ℕ)) (one : Said) (stop : Stopped)
    → IsSoFar w s script (statement ∷ rest) left refused before now
    → IsAnswer w left script statement one after → Written {T = Bool} (said_text one) (Err stop) now next
    → AnswersWritten w s script (Err stop) before next
unfolding one_more
stopped_within w s script statement rest left after refused before now next one Fault so a written =
    let more = one_more w s script statement rest left after refused before now (appended now (said_text one)) one so a refl in
    let r = front_behind (said_texts so.said) (said_text one) written.0 in
    record {
      said = so.said ++ one ∷ [];
      first = are_first w s script rest after (refused || is_refusal one) before (appended now (said_text one)) more;
      bytes = r.0;
      written = written.1 ∙ ap (λ t. appended t (take written.0 (said_text one))) so.written
          ∙ appended-append before (said_texts so.said) (take written.0 (said_text one))
          ∙ ap (appended before) (sym (ap (take r.0) (said_texts-push so.said one) ∙ r.1));
    }
stopped_within w s script statement rest left after refused before now next one NoMemory so a written = record {
  said = so.said;
  first = are_first w s script (statement ∷ rest) left refused before now so;
  written = written ∙ so.written;
}
