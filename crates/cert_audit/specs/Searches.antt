-- What a search over a tree made ready answers, and how it goes on.
use Rattle.std.specs.Prelude.{ℕ, ℤ, Option, Some, None}
use Rattle.moment_core.specs.declared.line.Dir.{Dir}
use Rattle.moment_core.specs.declared.line.Window.{Window}
use Rattle.span_core.specs.Answers.{IsAnswer}
use Rattle.span_core.specs.declared.answers.Answer.{Answer}
use Rattle.span_core.specs.declared.answers.Answer.TheVariants.{None as Never, Edge}
use Rattle.cert_audit.specs.Lowered.{due_of, members_of, window_of_ready}
use Rattle.cert_audit.specs.declared.ready.Ready.{Ready}

-- the answer where nothing differs
abbrev pub unchanged : Option Window → Answer
unchanged (Some window) = Never window
unchanged None = Edge

-- the answer of a tree made ready at p in a direction, or a stop that is due for the budget
abbrev pub AnswersAt : Ready → ℤ → Dir → ℕ → Answer → Type 0
AnswersAt ready p dir budget answer =
    IsAnswer (members_of ready) (due_of ready) (window_of_ready ready) dir p budget answer
