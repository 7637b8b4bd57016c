-- The tree that a node stands for.
use Rattle.stored_pair.specs.Meanings.{Meaning}
use Rattle.field_rules.specs.Lowered.{meaning_of_leaf}
use Rattle.ical_rules.specs.Lowered.{meaning_of_leaf as meaning_of_ical_leaf}
use Rattle.expr_tree.specs.Lists.{meaning_of_list}
use Rattle.expr_tree.specs.Tree.{Tree, Empty, Spanned, Ruled, Joined, Pairs, Unary}
use Rattle.lowered_tree.specs.declared.nodes.Node.{Node}
use Rattle.lowered_tree.specs.declared.nodes.Node.TheVariants as nodes

abbrev pub meant_of_node : Node → Tree Meaning
meant_of_node nodes.Empty = Empty
meant_of_node (nodes.List stamps) = Ruled (meaning_of_list stamps)
meant_of_node (nodes.Span span low high) = Spanned span low high
meant_of_node (nodes.Field leaf) = Ruled (meaning_of_leaf leaf)
meant_of_node (nodes.Ical leaf) = Ruled (meaning_of_ical_leaf leaf)
meant_of_node (nodes.Joined' op x a y b) = Joined op (meant_of_node a) (meant_of_node b)
meant_of_node (nodes.Pairs' x a y b) = Pairs (meant_of_node a) (meant_of_node b)
meant_of_node (nodes.Unary' op x a) = Unary op (meant_of_node a)
