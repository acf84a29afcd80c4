-- For C: what each call of a machine leaves in the lent lists; with a prime, a list is what it is afterwards. What is lent stands for a state, and what is asked for is what the
-- machine asks for there. A step tests no list but the last one; what no machine left behind has stopped.
-- Assumes nothing.
use Rattle.std.specs.Prelude.{◌≡◌}
use Rattle.laws.specs.Basics.{false, not, List, [], ℕ, length}
use Rattle.machines.specs.{Machines.stepped, Forms.answer_of, Packed.unpacked, Called.Called}
use Rattle.machine_judge.specs.Judging.{Reading, judging}
use Rattle.machine_simulate.specs.Simulating.{Counting, simulating}
use Rattle.machine_record.specs.Machine.{machine, counting}
use Rattle.machine_console.specs.Consoling.{Opening, consoling}
use Rattle.machines.specs.declared.Request as requests
use Rattle.machine_judge.specs.Words as judged
use Rattle.machine_simulate.specs.Words as simulated
use Rattle.machine_merge.specs.Merging as merger
use Rattle.machine_merge.specs.Words as merged
use Rattle.machine_record.specs.Lent as recorded
use Rattle.machine_console.specs.Lent as consoled

abbrev pub JudgeBegun : (memory input out request memory' request' : List ℕ) → ℕ → Type 0
JudgeBegun memory input out request memory' request' = Called (judged.lacks_room_of (length memory) (length input) (length out)) (memory' ≡ memory) request request'
    (λ (form : requests.Request). judged.StandsFor memory' input out form (Reading []))

abbrev pub JudgeStepped : (memory input out : List ℕ) (kind number : ℕ) (request memory' out' request' : List ℕ) → ℕ → Type 0
JudgeStepped memory input out kind number request memory' out' request' = Called false ((memory' ≡ memory) × (out' ≡ out)) request request'
    (λ (form : requests.Request). judged.StandsFor memory' input out' form (stepped judging (judged.state_of memory input out) (answer_of (unpacked kind number) (judged.place_of memory) input)))

abbrev pub SimulateBegun : (memory input out request memory' request' : List ℕ) → ℕ → Type 0
SimulateBegun memory input out request memory' request' = Called (simulated.lacks_room_of (length memory) (length input) (length out)) (memory' ≡ memory) request request'
    (λ (form : requests.Request). simulated.StandsFor memory' input out form Counting)

abbrev pub SimulateStepped : (memory input out : List ℕ) (kind number : ℕ) (request memory' out' request' : List ℕ) → ℕ → Type 0
SimulateStepped memory input out kind number request memory' out' request' = Called false ((memory' ≡ memory) × (out' ≡ out)) request request'
    (λ (form : requests.Request). simulated.StandsFor memory' input out' form (stepped simulating (simulated.state_of memory input out) (answer_of (unpacked kind number) 0 input)))

abbrev pub MergeBegun : (memory input out request memory' request' : List ℕ) → ℕ → Type 0
MergeBegun memory input out request memory' request' = Called (merged.lacks_room_of (length memory) (length input) (length out)) (memory' ≡ memory) request request'
    (λ (form : requests.Request). merged.StandsFor memory' input out form merger.Counting)

abbrev pub MergeStepped : (memory input out : List ℕ) (kind number : ℕ) (request memory' out' request' : List ℕ) → ℕ → Type 0
MergeStepped memory input out kind number request memory' out' request' = Called false ((memory' ≡ memory) × (out' ≡ out)) request request'
    (λ (form : requests.Request). merged.StandsFor memory' input out' form (stepped merger.merging (merged.state_of memory input out) (answer_of (unpacked kind number) (merged.place_of memory) input)))

abbrev pub RecordBegun : (memory words input out lines request memory' request' : List ℕ) → ℕ → Type 0
RecordBegun memory words input out lines request memory' request' =
    Called (not (recorded.has_room_of (length memory) (length words) (length input) (length out) (length lines))) (memory' ≡ memory) request request'
    (λ (form : requests.Request). recorded.StandsFor memory' words input out lines form counting)

abbrev pub RecordStepped : (memory words input out lines : List ℕ) (kind number : ℕ) (request memory' words' input' out' lines' request' : List ℕ) → ℕ → Type 0
RecordStepped memory words input out lines kind number request memory' words' input' out' lines' request' =
    Called false ((memory' ≡ memory) × (words' ≡ words) × (input' ≡ input) × (out' ≡ out) × (lines' ≡ lines)) request request'
    (λ (form : requests.Request). recorded.StandsFor memory' words' input' out' lines' form
    (stepped machine (recorded.state_of memory words input out lines) (answer_of (unpacked kind number) (recorded.place_of memory) input)))

-- The words go before the numbers.
abbrev pub ConsoleBegun : (words memory input out request memory' request' : List ℕ) → ℕ → Type 0
ConsoleBegun words memory input out request memory' request' =
    Called (not (consoled.has_room_of (length memory) (length words) (length input) (length out))) (memory' ≡ memory) request request'
    (λ (form : requests.Request). consoled.StandsFor memory' words input out form Opening)

abbrev pub ConsoleStepped : (words memory input out : List ℕ) (kind number : ℕ) (request words' memory' out' request' : List ℕ) → ℕ → Type 0
ConsoleStepped words memory input out kind number request words' memory' out' request' = Called false ((words' ≡ words) × (memory' ≡ memory) × (out' ≡ out)) request request'
    (λ (form : requests.Request). consoled.StandsFor memory' words' input out' form
    (stepped consoling (consoled.state_of memory words input out) (answer_of (unpacked kind number) (consoled.place_of memory) input)))
