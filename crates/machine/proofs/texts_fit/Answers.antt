-- The texts of nodes, and pigeonholes.
use Rattle.machine.proofs.Texts.{texts_length, texts_root, text_start, texts_push, text_at_lem, text_short}
use Rattle.machine.proofs.Pigeons.{pigeon}
use Rattle.machine.proofs.texts_fit.Goals as goal

pub returns : goal.returns
returns c = record {
  count = texts_length;
  root = texts_root;
  start = text_start;
  pushed = texts_push;
  parent = text_at_lem;
  short = text_short;
  room = pigeon;
}
