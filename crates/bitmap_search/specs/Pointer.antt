-- Bit pointers. Document 01: "It travels as a bit pointer (word and bit at each level) that is handed on after each move."
use Rattle.std.specs.Prelude.{ℕ, zero, suc, ◌+◌, ◌*◌, ◌/◌, ◌%◌}
use Rattle.bitmap_search.specs.declared.BitPos.{BitPos}
use Rattle.bitmap_search.specs.declared.BitPtr.{BitPtr}

-- the position at a level, and the pointer with another there; every level from 2 on is the highest
abbrev pub pos_at : BitPtr → ℕ → BitPos
pos_at p zero = p.low
pos_at p (suc zero) = p.mid
pos_at p (suc (suc l)) = p.high

abbrev pub with_pos : BitPtr → ℕ → BitPos → BitPtr
with_pos p zero x = record { low = x; mid = p.mid; high = p.high }
with_pos p (suc zero) x = record { low = p.low; mid = x; high = p.high }
with_pos p (suc (suc l)) x = record { low = p.low; mid = p.mid; high = x }

-- the number of the bit at a position of its level, and back
abbrev pub index_of : BitPos → ℕ
index_of x = x.word * 32 + x.bit

abbrev pub pos_of : ℕ → BitPos
pos_of k = record { word = k / 32; bit = k % 32 }

-- the pointer to a block: at each level above, the bit of the word that it stands in below
abbrev pub ptr_to : ℕ → BitPtr
ptr_to k = record { low = pos_of k; mid = pos_of (k / 32); high = pos_of (k / 32 / 32) }

-- the pointer with bit k at a level, and the bits above that one
abbrev pub aimed : BitPtr → ℕ → ℕ → BitPtr
aimed p zero k = ptr_to k
aimed p (suc zero) k = record { low = p.low; mid = pos_of k; high = pos_of (k / 32) }
aimed p (suc (suc l)) k = record { low = p.low; mid = p.mid; high = pos_of k }
