-- What a bit writer holds: whole bytes in the buffer, and less than a byte of bits beside it.
use Rattle.std.specs.Prelude.{ℕ, ◌+◌, ◌*◌, ◌^◌, ◌<◌, ◌≡◌, List, length, take, drop}
use Rattle.rows.specs.Packing.{Field, packs, num, width}
use Rattle.rows.specs.declared.writer.Bits.{Bits}
use Rattle.std.proofs.Common.{lit<}

-- the number written so far
abbrev pub so_far : List ℕ → Bits → ℕ
so_far out s = num (take s.at out) * 2 ^ s.have + s.acc

-- how many bits it has
abbrev pub count : Bits → ℕ
count s = 8 * s.at + s.have

-- less than a byte stands beside the buffer, and has its bits only
pub record Tidy (s : Bits) : Type 0 where
  pub few : s.have < 8
  pub small : s.acc < 2 ^ s.have

-- writing the fields fs took the writer s over a to the writer r over b; only bytes between their places changed
pub record Wrote (a b : List ℕ) (s r : Bits) (fs : List Field) : Type 0 where
  pub tidy : Tidy r
  pub bits : count r ≡ count s + width fs
  pub holds : so_far b r ≡ packs fs (so_far a s)
  pub same : length b ≡ length a
  pub before : take s.at b ≡ take s.at a
  pub behind : drop r.at b ≡ drop r.at a

-- a writer that has written nothing
abbrev pub start : Bits
start = record { acc = 0; have = 0; at = 0; few = lit< tt; small = lit< tt }
