use Rattle.expr_grammar.specs.Made.{IsDated}
use Rattle.expr_grammar.proofs.Completeness.{Spells-unique}
use Rattle.expr_grammar.proofs.Made.{program_made}
use Rattle.expr_grammar.proofs.Spans.{program_names}
use Rattle.expr_grammar.proofs.Spelled.{program_spelled}
use Rattle.expr_grammar.proofs.Whole.{spell_or_not}
use Rattle.expr_grammar.proofs.laws.grammar_laws.Goals as goal

pub returns-clause-one : goal.returns-clause-one
returns-clause-one c = Spells-unique

pub returns-clause-decided : goal.returns-clause-decided
returns-clause-decided c = spell_or_not

pub returns-clause-moments : goal.returns-clause-moments
returns-clause-moments c = program_made IsDated

pub returns-clause-spans : goal.returns-clause-spans
returns-clause-spans c = program_names

pub returns-clause-printed : goal.returns-clause-printed
returns-clause-printed c = program_spelled
