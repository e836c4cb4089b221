-- Parts of lent bytes.
use Rattle.std.specs.Prelude.{List, ℕ, ◌+◌, take, drop}
use Rattle.std.specs.Borrow.{Bor}

-- a part of lent bytes: where it stands, and what it holds
pub record Part : Type 0 where
  pub block : ℕ
  pub offset : ℕ
  pub bytes : List ℕ

-- the part that a reference to bytes is
abbrev pub part_of : Bor (List ℕ) → Part
part_of x = record { block = x.ref_ptr.0; offset = x.ref_ptr.1; bytes = x.now }

-- the part of lent bytes that starts at a place, of a length
abbrev pub part_at : Bor (List ℕ) → ℕ → ℕ → Part
part_at x start size = record { block = x.ref_ptr.0; offset = x.ref_ptr.1 + start; bytes = take size (drop start x.now) }
