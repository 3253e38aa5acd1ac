-- "The list is passed in order": after every list of calls `order` is the waiting list by arrival, every waiter once.
use Rattle.std.specs.Prelude.{List, ℕ}
use Rattle.line.specs.Server.{Server, order}
use Rattle.line.specs.Line.{Call, run, fresh}
use Rattle.line.specs.Order.{Sorted, ordered}
use Rattle.line.specs.Apart.{Apart, apart_run}

pub ordered_apart : (s : Server) → Apart s → Sorted s (order 8 0 s)
ordered_apart s h = ordered s (λ i j a b c d e. h.waiting.arrivals_apart i j a b c d e)

pub ordered_run : (kinds : ℕ → ℕ) (cs : List Call) → Sorted (run cs (fresh kinds)).server (order 8 0 (run cs (fresh kinds)).server)
ordered_run kinds cs = ordered_apart (run cs (fresh kinds)).server (apart_run kinds cs)
