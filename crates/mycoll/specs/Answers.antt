-- What the statements of a script are answered with, one behind the other. Each is answered in the
-- state that the ones before it left.
use Rattle.std.specs.Prelude.{◌≡◌, ℕ, Bool, true, false, List, [], ◌∷◌, Option, Some, None}
use Rattle.std.specs.Prelude.{Result, Ok, Err, take, if◌then◌else◌}
use Rattle.std.specs.List.{list_any, flat_map}
use Rattle.mc_ast.specs.declared.statement.Statement.{Statement}
use Rattle.mc_base.specs.declared.refusal.Refusal.{Refusal}
use Rattle.mc_base.specs.declared.span.Span.{Span}
use Rattle.mc_catalog.specs.declared.catalog.Catalog.{Catalog}
use Rattle.mc_exec.specs.Explained.{explained}
use Rattle.mc_exec.specs.FullScan.{answer}
use Rattle.mc_order.specs.Meaning.{Meaning}
use Rattle.mc_token.specs.Statements.{statements}
use Rattle.mc_typing.specs.Statements.{typed_statement}
use Rattle.mc_typing.specs.declared.typed.Typed.{Typed}
use Rattle.mc_values.specs.declared.answer.Answer.{Answer}
use Rattle.mycoll.specs.Messages.{out_of_range}
use Rattle.mycoll.specs.Reading.{Reads}
use Rattle.mycoll.specs.SaidTexts.{said_text}
use Rattle.mycoll.specs.World.{World, State, Rows, session_of}
use Rattle.mycoll.specs.declared.said.Said.{Said}
use Rattle.mycoll.specs.declared.said.Said.TheVariants.{Table, Refused}

-- The table that is answered; where a number is outside 64 bits, the refusal of that.
abbrev pub scan_said : Option Answer → Said
scan_said (Some answer) = Table answer
scan_said None = Refused out_of_range

-- What a typed statement over these rows is answered with: the rows of a full scan, whichever
-- indexes there are; with EXPLAIN its plan.
abbrev pub query_said : Catalog → (ℕ → Meaning) → List Rows → Typed → Said
query_said c meaning rows q =
    if q.explain then Table (explained c meaning rows q)
    else scan_said (answer c meaning rows q)

-- What a statement is answered with that is typed so. A refusal of typing is its answer.
abbrev pub typed_said : World → State → Result Typed Refusal → Said
typed_said w s (Ok q) = query_said w.catalog w.meaning s.rows q
typed_said w s (Err refusal) = Refused refusal

-- What a tree is answered with, and the state that it leaves: the one that it finds.
unfoldable pub tree_said : World → State → List ℕ → Statement → Said × State
tree_said w s script tree =
    (typed_said w s (typed_statement script tree w.catalog (session_of s)), s)

-- What a statement is answered with that reads so, and the state that it leaves. A refusal of its
-- syntax leaves the state as it was.
abbrev pub read_said : World → State → List ℕ → Result Statement Refusal → Said × State
read_said w s script (Ok tree) = tree_said w s script tree
read_said w s script (Err refusal) = (Refused refusal, s)

-- A statement is answered so in a state, and leaves this one: its syntax is refused, else its tree
-- is answered. An answer is what is said; `Answer` is the table among what may be said.
pub record IsAnswer (w : World) (before : State) (script : List ℕ) (statement : Span) (said : Said)
    (after : State) : Type 0 where
  pub read : Result Statement Refusal
  pub reads : Reads script statement read
  pub told : said ≡ (read_said w before script read).0
  pub left : after ≡ (read_said w before script read).1

-- Statements of a script are answered so, one behind the other, and leave this state.
abbrev pub Answered : World → State → List ℕ → List Span → List Said → State → Type 0
Answered w before script [] [] after = after ≡ before
Answered w before script (statement ∷ statements) (said ∷ more) after =
    (between : State) × IsAnswer w before script statement said between
    × Answered w between script statements more after
Answered w before script statements said after = ⊥

-- Some first statements of a script are answered so.
pub record AreFirst (w : World) (s : State) (script : List ℕ) (said : List Said) : Type 0 where
  pub count : ℕ
  pub behind : State
  pub answered : Answered w s script (take count (statements script 0)) said behind

-- All statements of a script are answered so.
pub record AreAll (w : World) (s : State) (script : List ℕ) (said : List Said) : Type 0 where
  pub behind : State
  pub answered : Answered w s script (statements script 0) said behind

-- Whether an answer is a refusal.
abbrev pub is_refusal : Said → Bool
is_refusal (Refused refusal) = true
is_refusal _ = false

-- Whether some answer is a refusal.
abbrev pub some_refused : List Said → Bool
some_refused all = list_any is_refusal all

-- The bytes of answers, one behind the other.
abbrev pub said_texts : List Said → List ℕ
said_texts all = flat_map said_text all
