-- A file read whole under a limit of its length.
use Rattle.std.specs.Prelude.{◌≡◌, ◌<◌, ◌≤◌, ℕ, Bool, true, false, List, [], ◌++◌, length, Option}
use Rattle.std.specs.Prelude.{None, Some, ⊤, Result, Ok, Err, IsSomeAnd}
use Rattle.mc_base.specs.Faults.{Rose}
use Rattle.mc_base.specs.declared.whole.ReadWhole.{ReadWhole}
use Rattle.mc_base.specs.declared.whole.ReadWhole.TheVariants.{Absent, Fault, TooLong, NoMemory}

-- The file of a name with this content was read: Ok is the whole content, which the limit allows.
abbrev pub WholeTells : Result (List ℕ) ReadWhole → ℕ → Option (List ℕ) → Type 0
WholeTells (Ok text) limit content = (content ≡ Some text) × (length text ≤ limit)
WholeTells (Err Absent) limit content = content ≡ None
WholeTells (Err TooLong) limit content = IsSomeAnd content (λ text. limit < length text)
WholeTells (Err Fault) limit content = ⊤
WholeTells (Err NoMemory) limit content = ⊤

-- The answer is Fault only where the count of faults rose.
abbrev pub WholeCause : {T : Type 0} → Result T ReadWhole → ℕ → ℕ → Type 0
WholeCause (Ok text) before after = ⊤
WholeCause (Err Fault) before after = Rose before after
WholeCause (Err Absent) before after = ⊤
WholeCause (Err TooLong) before after = ⊤
WholeCause (Err NoMemory) before after = ⊤

-- The rest of an open file was read whole.
abbrev pub RestTells : Result (List ℕ) ReadWhole → ℕ → List ℕ → Type 0
RestTells result limit rest = WholeTells result limit (Some rest)

-- One read moved bytes from the rest of the file to the text, or found the end or too many.
abbrev pub TurnTells : Result Bool ReadWhole → ℕ → List ℕ → List ℕ → List ℕ → List ℕ → Type 0
TurnTells (Ok true) limit text rest longer left = longer ++ left ≡ text ++ rest
TurnTells (Ok false) limit text rest longer left = (longer ≡ text) × (rest ≡ [])
TurnTells (Err TooLong) limit text rest longer left = limit < length (text ++ rest)
TurnTells (Err Absent) limit text rest longer left = ⊥
TurnTells (Err Fault) limit text rest longer left = ⊤
TurnTells (Err NoMemory) limit text rest longer left = ⊤

-- One read that found bytes made the text longer, within the limit.
abbrev pub TurnGrows : Result Bool ReadWhole → ℕ → ℕ → ℕ → Type 0
TurnGrows (Ok true) limit before after = (before < after) × (after ≤ limit)
TurnGrows (Ok false) limit before after = after ≡ before
TurnGrows (Err _) limit before after = ⊤
