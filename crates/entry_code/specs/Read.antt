-- Cited by the contracts of entry_of, ops_of, step_of, opening_of, query_of, rows_of, changes_of and plan_of.
-- What a reader of bytes reports.
use Rattle.std.specs.Prelude.{◌≡◌, ◌≢◌, ℕ, List, [], ◌++◌, get_or, Result, Ok, Err}
use Rattle.entry_code.specs.declared.fault.CodeFault.{CodeFault}
use Rattle.entry_code.specs.declared.fault.CodeFault.TheVariants.{Version, Trailing, Malformed, Memory}

-- the first byte is the version
abbrev pub HasVersion : List ℕ → Type 0
HasVersion bytes = get_or bytes 0 0 ≡ 1

-- a proper prefix of the bytes is the code of a value that is as P says
abbrev pub HasTrail : {X : Type 0} → (X → Type 0) → (X → List ℕ) → List ℕ → Type 0
HasTrail {X} P code bytes = (x : X) × (rest : List ℕ) × P x × (rest ≢ []) × (bytes ≡ code x ++ rest)

-- neither the bytes nor a prefix of them is
abbrev pub HasNone : {X : Type 0} → (X → Type 0) → (X → List ℕ) → List ℕ → Type 0
HasNone {X} P code bytes = (x : X) (rest : List ℕ) → P x → bytes ≢ code x ++ rest

-- what is read has these bytes as its code; each refusal has its reason
abbrev pub IsRead : {X : Type 0} → (X → Type 0) → (X → List ℕ) → List ℕ → Result X CodeFault → Type 0
IsRead P code bytes (Ok x) = (bytes ≡ code x) × P x
IsRead P code bytes (Err Version) = ¬ (HasVersion bytes)
IsRead P code bytes (Err Trailing) = HasTrail P code bytes
IsRead P code bytes (Err Malformed) = HasVersion bytes × HasNone P code bytes
IsRead P code bytes (Err Memory) = HasVersion bytes

-- and what has these bytes as its code is read, unless memory runs out
abbrev pub IsAccepted : {X : Type 0} → (X → Type 0) → (X → List ℕ) → List ℕ → Result X CodeFault → Type 0
IsAccepted {X} P code bytes (Ok y) = (x : X) → P x → bytes ≡ code x → y ≡ x
IsAccepted {X} P code bytes (Err fault) = (x : X) → P x → bytes ≡ code x → fault ≡ Memory
