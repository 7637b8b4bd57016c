use Rattle.std.proofs.Common.{subst, sym}
use Rattle.expr_tree.specs.Tree.{tree_of}
use Rattle.stored_pair.specs.Names.{entries_of}
use Rattle.lowered_tree.specs.Nodes.{meant_of_node}
use Rattle.cert_audit.specs.Searchable.{IsSearchable}
use Rattle.cert_audit.proofs.Readying.{can_be_searched}
use Rattle.cert_audit.proofs.ready.Ready.make.Goals as goal

pub node_frame-frame-requires-clause-reach : goal.node_frame-frame-requires-clause-reach
node_frame-frame-requires-clause-reach c =
    let entries = entries_of c.args.book.now in
    let may =
    can_be_searched entries c.lawful_laws.ensures c.tree_laws.ensures.sound
    c.tree_laws.ensures.reach c.tree_laws.ensures.small (tree_of c.args.e.now) c.requires in
    let root : IsSearchable (meant_of_node c.in_ok-root.root) =
    subst IsSearchable (sym c.in_ok-root.ensures.meant) may in
    root.reach

pub invariant_of-result : goal.invariant_of-result
invariant_of-result c =
    let entries = entries_of c.args.book.now in
    let may =
    can_be_searched entries c.lawful_laws.ensures c.tree_laws.ensures.sound
    c.tree_laws.ensures.reach c.tree_laws.ensures.small (tree_of c.args.e.now) c.requires in
    record {
      framed = c.node_frame-frame.ensures.value;
      searchable = subst IsSearchable (sym c.in_ok-root.ensures.meant) may;
    }
