use Rattle.expr_tokens.proofs.Writing.{Lexes-append, Lexes-all, Lexes-moment, Lexes-nothing, Lexes-number, Lexes-sign, Lexes-space, Lexes-string, Lexes-word}
use Rattle.expr_tokens.proofs.laws.writing_laws.Goals as goal

pub returns-clause-nothing : goal.returns-clause-nothing
returns-clause-nothing c = Lexes-nothing

pub returns-clause-parts : goal.returns-clause-parts
returns-clause-parts c = Lexes-append

pub returns-clause-texts : goal.returns-clause-texts
returns-clause-texts c = Lexes-all

pub returns-clause-spaces : goal.returns-clause-spaces
returns-clause-spaces c = Lexes-space

pub returns-clause-signs : goal.returns-clause-signs
returns-clause-signs c = Lexes-sign

pub returns-clause-words : goal.returns-clause-words
returns-clause-words c = Lexes-word

pub returns-clause-strings : goal.returns-clause-strings
returns-clause-strings c = Lexes-string

pub returns-clause-numbers : goal.returns-clause-numbers
returns-clause-numbers c = Lexes-number c.literal_laws.ensures.form c.literal_laws.ensures.longest
    c.literal_laws.ensures.end

pub returns-clause-moments : goal.returns-clause-moments
returns-clause-moments c = Lexes-moment c.literal_laws.ensures.form c.literal_laws.ensures.longest
    c.literal_laws.ensures.end c.literal_laws.ensures.shaped c.literal_laws.ensures.apart
