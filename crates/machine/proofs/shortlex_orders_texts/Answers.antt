-- Shortlex is a strict total order.
use Rattle.machine.proofs.Orders.{earlier_trans, earlier_irreflexive, earlier_total, earlier_append}
use Rattle.machine.proofs.shortlex_orders_texts.Goals as goal

pub returns : goal.returns
returns c = record {
  transitive = earlier_trans;
  irreflexive = earlier_irreflexive;
  total = earlier_total;
  appended = earlier_append;
}
