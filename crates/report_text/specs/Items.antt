-- The lines of a walk: its items, and the tokens from which it can go on.
use Rattle.std.specs.Prelude.{ℕ, List, ◌++◌, codes}
use Rattle.moment_core.specs.declared.line.Clock.{Clock}
use Rattle.span_core.specs.declared.answers.Item.{Item}
use Rattle.span_core.specs.declared.answers.Item.TheVariants as items
use Rattle.span_core.specs.declared.answers.Token.{Token}
use Rattle.span_core.specs.declared.answers.Why.TheVariants as whys
use Rattle.token_text.specs.Texts.{token_text}
use Rattle.expr_tree.specs.declared.tree.Kind.{Kind}
use Rattle.report_text.specs.Lines.{run_text, window_text, with_line_feed}

abbrev pub item_text : Item → Kind → Clock → List ℕ
item_text (items.Run run) kind clock = run_text kind clock run
item_text (items.Done whys.To) kind clock = codes "end"
item_text (items.Done (whys.None w)) kind clock = codes "none " ++ window_text clock w
item_text (items.Done whys.Edge) kind clock = codes "edge"
item_text (items.Budget t) kind clock = codes "budget " ++ token_text t

-- The line of an item.
abbrev pub item_line : Item → Kind → Clock → List ℕ
item_line item kind clock = with_line_feed (item_text item kind clock)

-- The line of a walk that can go on.
abbrev pub more_line : Token → List ℕ
more_line t = with_line_feed (codes "more " ++ token_text t)
