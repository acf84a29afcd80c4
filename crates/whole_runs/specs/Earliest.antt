-- Document 02, Note 8, "The earliest state to show in a debugger": "Developers pick some kept checkpoints and want the earliest consistent line through all of
-- them." The line, the refusals and the outcome of the call. What is promised of the line is in Answers and WholeRuns.
-- Assumes nothing.
use Rattle.std.specs.Prelude.{◌||◌, ◌∷◌, Ok}
use Rattle.laws.specs.Basics.{Bool, false, not, List, [], Option, ℕ, max, eqb, ltb, leb, length}
use Rattle.laws.specs.{Lists.select, Lists.or_else, Lists.last_of, Lists.table, Tests.some_of}
use Prim.{tt}
use Rattle.model.specs.Shapes.{LineAnswer}
use Rattle.model.specs.declared.{Interval.Interval, Checkpoint.Checkpoint, Named.Named, Run.Run, Refusal.Refusal}
use Rattle.model.specs.declared.Refusal.TheVariants.{ListTooShort, NoSuchProcess, UnfitNamedList, NotKept, CausallyOrdered}
use Rattle.model.specs.Words.{entry, comes_before, no_checkpoint, process, keeps_in}
use Rattle.model.specs.Refusals.{first_of, unsound, short_line}
use Rattle.whole_runs.specs.Outcomes.{Outcome, judged, refused_outcome, written}

-- "They hand over a list of named checkpoints, each a process and an index". The named checkpoint among those that its process keeps, and its vector.
unfoldable pub is_named : Named → Checkpoint → Bool
is_named c x = eqb x.index.0 c.index.0

unfoldable pub named_vector : Run → Named → List Interval
named_vector s c = (or_else (last_of (select (is_named c) (process s c.process).kept)) no_checkpoint).vector

-- "At each process the line .. has the greatest of the named checkpoints' entries for it." Document 01: "An interval number is never read as a checkpoint
-- index, save where a rule here names an entry as one". This rule does: entry g is read as checkpoint g, or as the live state.
unfoldable pub greatest : Run → List Named → ℕ → ℕ
greatest s [] p = 0
greatest s (c ∷ l) p = max (entry (named_vector s c) p).0 (greatest s l p)

-- "the line, written to a lent line list"
unfoldable pub earliest_line : Run → List Named → List ℕ
earliest_line s l = table s.count (greatest s l)

-- "The list is judged for 4 before 18": all of it, however long.
unfoldable pub some_absent : ℕ → List Named → Bool
some_absent n l = some_of (λ c. leb n c.process) l

-- "18, after 7, for a list that is empty, longer than n or names a process twice"
unfoldable pub repeats : List Named → Bool
repeats [] = false
repeats (c ∷ l) = some_of (λ d. eqb d.process c.process) l || repeats l

unfoldable pub unfit : ℕ → List Named → Bool
unfit n l = eqb (length l) 0 || ltb n (length l) || repeats l

-- "19 for a checkpoint not kept"
unfoldable pub not_kept : Run → Named → Bool
not_kept s c = not (keeps_in s c.process c.index.0)

-- "20 for two of which one comes causally before the other". Each is compared with itself too: in a sound state none comes before itself.
unfoldable pub some_ordered : Run → List Named → Bool
some_ordered s l = some_of (λ c. some_of (λ d. comes_before c.index c.process (named_vector s d)) l) l

-- "Where several hold, the lowest number is given".
unfoldable pub earliest_refusal : Run → List Named → List ℕ → Option Refusal
earliest_refusal s l line = first_of (
    unsound s
    ∷ record { holds = short_line s line; gives = ListTooShort }
    ∷ record { holds = some_absent s.count l; gives = NoSuchProcess }
    ∷ record { holds = unfit s.count l; gives = UnfitNamedList }
    ∷ record { holds = some_of (not_kept s) l; gives = NotKept }
    ∷ record { holds = some_ordered s l; gives = CausallyOrdered }
    ∷ [])

-- "It changes no state."
unfoldable pub earliest_outcome : Run → List Named → List ℕ → Outcome LineAnswer
earliest_outcome s l line = judged (earliest_refusal s l line) (refused_outcome s [] line)
    (record { run = s; answer = Ok tt; rose = 0; deleted = []; line = written line (earliest_line s l) })
