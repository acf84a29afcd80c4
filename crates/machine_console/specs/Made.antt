-- The calls of a script, made on a state: "The console works on states reached by its own calls", an operator's start first.
-- Assumes nothing.
use Rattle.std.specs.Prelude.{◌∷◌, ◌-◌, ◌*◌}
use Rattle.laws.specs.Basics.{Bool, List, [], Option, None, Some, ℕ, min, eqb, replicate, pick}
use Rattle.model.specs.{declared.Run.Run, declared.Refusal.TheVariants.MalformedRecord, Words.ones, Words.most_processes}
use Rattle.whole_runs.specs.Outcomes.{refusing, start_report}
use Rattle.whole_runs.specs.Calls.{checkpoint, send, deliver, lose, recover, line, earliest, Answered, answered}
use Rattle.theory_roles.specs.declared.{Caller.Caller, Role.TheVariants.Operator, Operation.Operation}
use Rattle.theory_roles.specs.declared.Operation.TheVariants.{Start, Checkpoint, Send, Deliver, Lose, Recover, Line, Earliest, List as Listing, Counts}
use Rattle.theory_roles.specs.{Console.console_start, Runs.made, Runs.list, Runs.counts, Runs.console_answered}
use Rattle.machine_console.specs.declared.script.Call.{Call}

-- How many processes the lent lists are for: those of the run, 16 at most.
unfoldable pub processes : Run → ℕ
processes s = min most_processes s.count

-- The lent lists are as long as the call asks for, or one entry too short, and every entry is 0 before it: room for n entries, and for n × n pairs.
unfoldable pub lent : Bool → ℕ → List ℕ
lent short size = replicate (pick short (size - 1) size) 0

abbrev pub lent_line : Run → Call → List ℕ
lent_line s c = lent c.short (processes s)

abbrev pub lent_pairs : Run → Call → List ℕ
lent_pairs s c = lent c.short (2 * processes s * processes s)

-- A start with the block count 1 at each process. One that is refused leaves the state as it was.
unfoldable pub started_over : Run → Answered → Answered
started_over s o = record { run = pick (eqb o.reply.report.refused 0) o.run s; reply = o.reply }

abbrev pub started_by : Caller → ℕ → Answered
started_by c n = answered start_report (console_start c n ones)

-- What a call does with the lists that are lent for pairs and for a line, by its operation.
unfoldable pub made_with : Operation → Run → Call → List ℕ → List ℕ → Answered
made_with Checkpoint s c pairs entries = console_answered c.caller s (made (checkpoint c.process pairs))
made_with Send s c pairs entries = console_answered c.caller s (made (send c.process c.argument))
made_with Deliver s c pairs entries = console_answered c.caller s (made (deliver c.argument pairs))
made_with Lose s c pairs entries = console_answered c.caller s (made (lose c.argument))
made_with Recover s c pairs entries = console_answered c.caller s (made (recover c.low pairs entries))
made_with Line s c pairs entries = console_answered c.caller s (made (line c.low entries))
-- the line through one named checkpoint
made_with Earliest s c pairs entries = console_answered c.caller s (made (earliest (record { process = c.process; index = record { 0 = c.low } } ∷ []) entries))
made_with Listing s c pairs entries = console_answered c.caller s (list pairs)
made_with Counts s c pairs entries = console_answered c.caller s (counts entries)
made_with Start s c pairs entries = started_over s (started_by c.caller c.process)

-- What is no call is refused with 14, and changes nothing.
unfoldable pub made_on : Run → Option Call → Answered
made_on s None = record { run = s; reply = record { report = refusing MalformedRecord; rose = 0; deleted = []; line = [] } }
made_on s (Some c) = made_with c.operation s c (lent_pairs s c) (lent_line s c)

-- The operator, who starts the run of a script.
abbrev pub operator : Caller
operator = record { role = Operator; owned = 0 }

-- "an operator's start first": of as many processes as the first byte says.
unfoldable pub opened : ℕ → Answered
opened n = started_by operator n
