-- a source and a sink in memory, and what one call does to them
use Rattle.std.specs.Prelude.{◌≤◌, ℕ, ◌+◌, ◌-◌, ◌^◌, ◌==◌, ◌&&◌, not, Bool, nat_le, min, if◌then◌else◌, List, [], ◌++◌, length, take, drop, Result, Ok, Err}
use Rattle.std.specs.List.{list_any}

-- a count and one more, up to the end of 64 bits
abbrev pub counted : ℕ → ℕ
counted n = min (n + 1) (2 ^ 64 - 1)

-- a writer's count after a call: one more at a failure, and where it takes nothing of a nonempty piece
abbrev pub counted_at : {E : Type 0} → ℕ → Result ℕ E → List ℕ → ℕ
counted_at faults (Ok n) piece = if (n == 0) && not (length piece == 0) then counted faults else faults
counted_at faults (Err _) piece = counted faults

-- whether the call that comes after so many is listed
abbrev pub is_listed : List ℕ → ℕ → Bool
is_listed fails calls = list_any (λ n. n == counted calls) fails

-- the bytes still to come, the calls so far, the numbers of the calls that fail, and how many have failed
pub record Supply : Type 0 where
  pub left : List ℕ
  pub calls : ℕ
  pub fails : List ℕ
  pub faults : ℕ

-- how many bytes a call gives into a buffer of some length
abbrev pub given_count : Supply → ℕ → ℕ
given_count s size = if is_listed s.fails s.calls then 0 else min size (length s.left)

-- a call takes what it gives; a listed one fails
abbrev pub after_read : Supply → ℕ → Supply
after_read s size = record {
  left = drop (given_count s size) s.left;
  calls = counted s.calls;
  fails = s.fails;
  faults = if is_listed s.fails s.calls then counted s.faults else s.faults;
}

-- the bytes taken, the room in all, how many bytes a call takes at most, the calls so far, the numbers of the calls that fail, and how often it has failed
pub record Store : Type 0 where
  pub taken : List ℕ
  pub room : ℕ
  pub most : ℕ
  pub calls : ℕ
  pub fails : List ℕ
  pub faults : ℕ

-- how many bytes of a piece a call takes
abbrev pub taken_count : Store → List ℕ → ℕ
taken_count s piece = if is_listed s.fails s.calls then 0 else min (min (length piece) s.most) (s.room - length s.taken)

-- some bytes come, and no room is left
abbrev pub is_stuck : Store → List ℕ → Bool
is_stuck s piece = not (length piece == 0) && nat_le s.room (length s.taken)

-- a call takes the front of the piece; a listed one takes nothing, and counts as a fault, as does one that is stuck
abbrev pub after_write : Store → List ℕ → Store
after_write s piece = record {
  taken = s.taken ++ take (taken_count s piece) piece;
  room = s.room;
  most = s.most;
  calls = counted s.calls;
  fails = s.fails;
  faults = if is_listed s.fails s.calls then counted s.faults else if is_stuck s piece then counted s.faults else s.faults;
}

-- a sink takes a byte a call at least, and its room lies in memory that it has
pub record HasRoom (length room capacity most : ℕ) : Type 0 where
  pub progress : 1 ≤ most
  pub within : length ≤ room
  pub held : room ≤ capacity
