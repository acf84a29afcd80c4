-- What is held of a half once it is read to its end: of more than 16,392 bytes, 4,097 records and as many bytes after them as are left over. Such a half has too
-- many records, and no number that it can meet depends on anything else (proofs/Standing).
-- Assumes nothing.
use Rattle.std.specs.Prelude.{◌++◌, ◌+◌, ◌-◌, ◌%◌}
use Rattle.laws.specs.Basics.{List, ℕ, ltb, leb, length, take, pick}

-- At most this many bytes of a half are kept; all others are only counted.
abbrev pub most_kept_of : ℕ
most_kept_of = 16392

-- A half is read no further than this: no file is so long.
abbrev pub most_counted : ℕ
most_counted = 9_000_000_000_000_000_000

-- How many bytes are held of a half of that many.
unfoldable pub buffered_size : ℕ → ℕ
buffered_size total = pick (leb total most_kept_of) total (16389 + (total - 1) % 4)

unfoldable pub buffered_of : List ℕ → List ℕ
buffered_of file = take (buffered_size (length file)) file

-- How many bytes are asked for where that many were read: what there is room for, then as many again to be counted.
unfoldable pub wanted : ℕ → ℕ
wanted total = pick (ltb total most_kept_of) (most_kept_of - total) most_kept_of

-- The first bytes are kept.
unfoldable pub keeping : List ℕ → List ℕ → List ℕ
keeping kept more = take most_kept_of (kept ++ more)
