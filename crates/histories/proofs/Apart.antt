-- Events are told apart by their kinds, and sends and receipts by the numbers of their messages.
-- Assumes nothing.
use Rattle.std.specs.Prelude.{◌≡◌}
use Rattle.laws.specs.Basics.{ℕ, arith}
use Rattle.histories.specs.History.{stored, sent, received}

pub same_sent : (m k : ℕ) → sent m ≡ sent k → m ≡ k
same_sent m k e = cc

pub same_received : (m k : ℕ) → received m ≡ received k → m ≡ k
same_received m k e = cc

pub sent_stored : (m : ℕ) → sent m ≡ stored → ⊥
sent_stored m e = let z : ◌≡◌ {A = ℕ} 0 1 = cc in omega arith

pub received_stored : (m : ℕ) → received m ≡ stored → ⊥
received_stored m e = let z : ◌≡◌ {A = ℕ} 0 1 = cc in omega arith

pub sent_received : (m k : ℕ) → sent m ≡ received k → ⊥
sent_received m k e = let z : ◌≡◌ {A = ℕ} 0 1 = cc in omega arith
