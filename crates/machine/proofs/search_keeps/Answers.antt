-- A lemma for each thing that a search does.
use Rattle.machine.proofs.Turns.{ready_start, ready_done, ready_found, ready_agreed, partway_skipped, partway_pushed, partway_grown, partway_turned}
use Rattle.machine.proofs.search_keeps.Goals as goal

pub returns : goal.returns
returns c = record {
  start = ready_start;
  done = ready_done;
  found = ready_found;
  agreed = ready_agreed;
  skipped = partway_skipped;
  pushed = partway_pushed;
  grown = partway_grown;
  turned = partway_turned;
}
