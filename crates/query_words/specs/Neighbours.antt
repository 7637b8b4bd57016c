-- The commands that ask for a run by a moment.
use Rattle.std.specs.Prelude.{Option, Some, None}
use Rattle.query_words.specs.declared.commands.Command.{Command}
use Rattle.query_words.specs.declared.commands.Command.TheVariants as commands
use Rattle.query_words.specs.declared.queries.Neighbour.{Neighbour}
use Rattle.query_words.specs.declared.queries.Neighbour.TheVariants.{Next, Previous, Current, Closest, Contains}

abbrev pub command_of : Neighbour → Command
command_of Next = commands.Next
command_of Previous = commands.Previous
command_of Current = commands.Current
command_of Closest = commands.Closest
command_of Contains = commands.Contains

-- what a command asks for by a moment
abbrev pub neighbour_of : Command → Option Neighbour
neighbour_of commands.Next = Some Next
neighbour_of commands.Previous = Some Previous
neighbour_of commands.Current = Some Current
neighbour_of commands.Closest = Some Closest
neighbour_of commands.Contains = Some Contains
neighbour_of command = None
