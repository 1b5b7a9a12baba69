use Rattle.std.proofs.Common.{◌≡◌, ◌+◌, ◌≤◌, length, vec_items, sym, refl, ap, ◌∙◌, subst, arith}
use Rattle.holdings.specs.Memory.{memory_of}
use Rattle.shelving.specs.declared.report.ToldPair.{ToldPair}
use Rattle.shelving.specs.Runs.{Told}
use Rattle.shelving.proofs.Separating.{separable_at, told_more}
use Rattle.shelving.proofs.pair_texts.tell_row.Goals as goal

pub loop-second-init : goal.loop-second-init
loop-second-init g c = (refl, c.requires.before, omega (arith, c.requires.high))

pub text_between-requires : goal.text_between-requires
text_between-requires g c = record {
  separable = separable_at g.A.Alphabet.model (memory_of c.args.shelf.now) _ _ _ (sym c.loop-second.auto.steps) (sym c.loop-second.auto.symbols) (sym c.loop-second.invariant.0) c.requires.separable;
  low = c.requires.low;
  order = omega (arith, c.loop-second.auto.second);
  high = omega (arith, c.loop-second-test.true);
}

pub loop-second-preserved : goal.loop-second-preserved
loop-second-preserved g c =
    let m = g.A.Alphabet.model in
    let M = memory_of c.args.shelf.now in
    let p : ToldPair = record { pair = record { first = c.args.first; second = c.loop-second.second; length = length c.as_slice.result.now }; text = c.in_ok-text.text } in
    let high : c.loop-second.second ≤ M.head.holdings = omega (arith, c.loop-second-test.true) in (
      c.text_between.auto.witness ∙ c.loop-second.invariant.0,
      told_more m M p (vec_items c.loop-second.pairs) c.loop-second.invariant.1 high (ap length c.as_slice.ensures.value) c.in_ok-text.ensures (vec_items c.push.new.self) c.in_ok-push.ensures.items,
      omega (arith, high),
    )

pub returns-in_ok-push : goal.returns-in_ok-push
returns-in_ok-push g c =
    let m = g.A.Alphabet.model in
    let M = memory_of c.args.shelf.now in
    let p : ToldPair = record { pair = record { first = c.args.first; second = c.loop-second.second; length = length c.as_slice.result.now }; text = c.in_ok-text.text } in
    let high : c.loop-second.second ≤ M.head.holdings = omega (arith, c.loop-second-test.true) in
    let last : c.loop-second.second + 1 ≡ M.head.holdings + 1 = omega arith in
    subst (λ j. Told m M c.args.first j (vec_items c.push.new.self)) last
    (told_more m M p (vec_items c.loop-second.pairs) c.loop-second.invariant.1 high (ap length c.as_slice.ensures.value) c.in_ok-text.ensures (vec_items c.push.new.self) c.in_ok-push.ensures.items)

pub returns : goal.returns
returns g c =
    let M = memory_of c.args.shelf.now in
    let all : c.loop-second.second ≡ M.head.holdings + 1 = omega (arith, c.loop-second-test.false, c.loop-second.invariant.2) in
    subst (λ j. Told g.A.Alphabet.model M c.args.first j (vec_items c.loop-second.pairs)) all c.loop-second.invariant.1
