-- What is copied out of a list of named checkpoints: its first 16 elements, how many elements it has, and the greatest process that one of them names.
-- Assumes nothing.
use Rattle.std.specs.Prelude.{◌≡◌, ◌+◌}
use Rattle.laws.specs.Basics.{List, ℕ, zero, suc, max, ltb, length, get_or, set, replicate, pick}
use Rattle.model.specs.declared.Named.{Named}
use Rattle.model.specs.Words.{most_processes}
use Rattle.words_line.specs.declared.earliest.list.Copied.{Copied}

-- What stands in a place that is not used.
abbrev pub no_named : Named
no_named = record { process = 0; index = record { 0 = 0 } }

unfoldable pub nothing_copied_of : Copied
nothing_copied_of = record { named = replicate most_processes no_named; length = 0; process = 0 }

-- One element more.
unfoldable pub with_element_of : Copied → Named → Copied
with_element_of t c = record {
  named = pick (ltb t.length most_processes) (set t.named t.length c) t.named;
  length = t.length + 1;
  process = max t.process c.process;
}

-- Of the first k elements of a list, and of all of them.
unfoldable pub copy_to : ℕ → List Named → Copied
copy_to zero l = nothing_copied_of
copy_to (suc k) l = with_element_of (copy_to k l) (get_or l k no_named)

unfoldable pub copy_of : List Named → Copied
copy_of l = copy_to (length l) l

-- It is the copy of a list.
unfoldable pub IsCopy : Copied → Type 0
IsCopy t = (l : List Named) × (t ≡ copy_of l)
