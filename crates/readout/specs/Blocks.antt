-- "Also check the block around the lines: STX, bytes other than ETX, ETX, and as last byte the exclusive or of everything after STX up to ETX included."
use Rattle.std.specs.Prelude.{Bool, not, ◌&&◌, List, [], ◌∷◌, ◌++◌, ℕ, ◌+◌, eqb, length, get_or, take, drop}
use Rattle.std.specs.Int.Bits.{bit_xor}
use Rattle.laws.specs.Leading.{leading}

-- the exclusive or of bytes, after n
unfoldable pub xor_from : ℕ → List ℕ → ℕ
xor_from n [] = n
xor_from n (b ∷ rest) = xor_from (bit_xor n b) rest

-- a byte other than ETX, 3
abbrev pub not_etx : ℕ → Bool
not_etx b = not (eqb b 3)

-- the block around bytes: STX, 2, the bytes, ETX and the check byte
abbrev pub block_around : List ℕ → List ℕ
block_around bytes = 2 ∷ bytes ++ (3 ∷ xor_from 0 (bytes ++ (3 ∷ [])) ∷ [])

-- bytes are a block: STX, the first ETX after it, the check byte, and nothing else
unfoldable pub is_block : List ℕ → Bool
is_block bytes =
    let n = leading not_etx (drop 1 bytes) in
    eqb (get_or bytes 0 0) 2 && eqb (length bytes) (n + 3) && eqb (get_or bytes (n + 1) 0) 3 && eqb (get_or bytes (n + 2) 0) (xor_from 0 (take (n + 1) (drop 1 bytes)))
