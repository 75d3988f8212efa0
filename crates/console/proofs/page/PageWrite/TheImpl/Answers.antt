-- Of a writer whose bytes are not known the trait asks only that no more is taken than was handed over.
use Rattle.std.proofs.Common.{ℕ, List, length, ◌≤◌, ◌≡◌, le_of_eq, Result, Ok, Err, IfOk, MatchResult}
use Rattle.std.proofs.lemmas.Result.{on_ok_weaker}
use Rattle.std.specs.Bool.{⊤}
use Rattle.console.proofs.page.PageWrite.TheImpl.Goals as goal

all_taken : {E : Type 0} (answer : Result ℕ E) (text : List ℕ) → IfOk answer (λ n. n ≡ length text) → IfOk answer (λ n. n ≤ length text)
all_taken (Ok n) text e = le_of_eq e
all_taken (Err fault) text e = e

not_known : {A E : Type 0} (answer : Result A E) → MatchResult answer (λ _. ⊤) (λ _. ⊤)
not_known (Ok n) = tt
not_known (Err fault) = tt

pub write-tells : goal.write-tells
write-tells g c = record { bound = all_taken c.result c.args.buf.now c.ensures.takes; bytes = not_known c.result }

pub write_all-tells : goal.write_all-tells
write_all-tells g c = record { bytes = on_ok_weaker c.result (λ _. tt) c.ensures.puts }
