use Rattle.std.proofs.Common.{◌≡◌, ◌+◌, ◌<◌, [], map, length, get_or, take, refl, sym, ap, ◌∙◌, arith, rules}
use Rattle.std.proofs.ByRecursion.{All-get_or}
use Rattle.std.proofs.lemmas.List.{take_all, length-append, length-map, get_or-map}
use Rattle.std.proofs.lemmas.Result.{err_from_is_err_and}
use Rattle.alphabet.specs.Model.{SoundTerm}
use Rattle.table.proofs.Turns.{all_read}
use Rattle.join_laws.specs.Ways.{followed_by}
use Rattle.join_ways.specs.Paths.{within, SoundSpan, along}
use Rattle.join_ways.proofs.Splices.{Mid, mid_none, mid_more, mid_same, mid_length}
use Rattle.join_ways.proofs.Followed.{along_more, along_none, along_front}
use Rattle.join_ways.proofs.write.write_along.Goals as goal

pub loop-depth-init : goal.loop-depth-init
loop-depth-init g c = (mid_same _ _ [] _ _ _ (sym (along_none g.A.Alphabet.model [])) (mid_none c.args.outputs.now.count c.args.outputs.now.items.now c.args.outputs.now.fits), refl)

pub offset_bounds-second-from : goal.offset_bounds-second-from
offset_bounds-second-from g c =
    let h : c.loop-depth.depth < length c.args.path.now = omega arith in
    let k = All-get_or (SoundSpan g.A.Alphabet.model c.args.second.now) c.args.path.now c.loop-depth.depth (record { from = 0; to = 0 }) h c.requires.spans in
    omega (arith, k.0, k.1)

pub slice_bounds-write_followed-count : goal.slice_bounds-write_followed-count
slice_bounds-write_followed-count g c =
    let h : c.loop-depth.depth < length c.args.path.now = omega arith in
    let k = All-get_or (SoundSpan g.A.Alphabet.model c.args.second.now) c.args.path.now c.loop-depth.depth (record { from = 0; to = 0 }) h c.requires.spans in
    k.0

pub slice_bounds-write_followed-start : goal.slice_bounds-write_followed-start
slice_bounds-write_followed-start g c =
    let h : c.loop-depth.depth < length c.args.path.now = omega arith in
    let k = All-get_or (SoundSpan g.A.Alphabet.model c.args.second.now) c.args.path.now c.loop-depth.depth (record { from = 0; to = 0 }) h c.requires.spans in
    let a = k.0 in
    search rules

pub slice_bounds-write_followed-end : goal.slice_bounds-write_followed-end
slice_bounds-write_followed-end g c =
    let h : c.loop-depth.depth < length c.args.path.now = omega arith in
    let k = All-get_or (SoundSpan g.A.Alphabet.model c.args.second.now) c.args.path.now c.loop-depth.depth (record { from = 0; to = 0 }) h c.requires.spans in
    let a = k.0 in
    let b = k.1 in
    search rules

pub write_followed-requires : goal.write_followed-requires
write_followed-requires g c =
    let m = g.A.Alphabet.model in
    let h : c.loop-depth.depth < length c.args.path.now = omega arith in
    let k = All-get_or (SoundSpan m c.args.second.now) c.args.path.now c.loop-depth.depth (record { from = 0; to = 0 }) h c.requires.spans in
    record {
      term = all_read (SoundTerm m) c.args.terms.now c.loop-depth.depth c.index-terms-depth.result c.loop-depth-test.true c.index-terms-depth.is c.requires.terms;
      others = k.2;
    }

pub returns-in_err-write_followed : goal.returns-in_err-write_followed
returns-in_err-write_followed g c =
    let m = g.A.Alphabet.model in
    let ts = c.args.terms.now in
    let ws = map (within c.args.second.now) c.args.path.now in
    let d = c.loop-depth.depth in
    let t = c.index-terms-depth.result in
    let w = within c.args.second.now (get_or c.args.path.now d (record { from = 0; to = 0 })) in
    let h : d < length c.args.path.now = omega arith in
    let long : length ws ≡ length ts = length-map c.args.path.now (within c.args.second.now) ∙ c.requires.path in
    let e = along_more m ts ws d t w long c.loop-depth-test.true c.index-terms-depth.is (get_or-map (within c.args.second.now) c.args.path.now d (record { from = 0; to = 0 }) w h) in
    let same = mid_length _ _ _ _ _ c.loop-depth.invariant.0 in
    let over = c.in_err-write_followed.ensures.wrote in
    let p = err_from_is_err_and c.from_residual.result c.from_residual.ensures.1 in
    record {
      wrote = rw p.1 (omega (arith, over, ap length e, length-append (along m (take d ts) (take d ws)) (followed_by m t w), along_front m ts ws (d + 1) long, c.loop-depth.invariant.0.ends));
      same = c.write_followed.ensures.same ∙ c.loop-depth.invariant.1;
    }

pub loop-depth-preserved : goal.loop-depth-preserved
loop-depth-preserved g c =
    let m = g.A.Alphabet.model in
    let ts = c.args.terms.now in
    let ws = map (within c.args.second.now) c.args.path.now in
    let d = c.loop-depth.depth in
    let t = c.index-terms-depth.result in
    let w = within c.args.second.now (get_or c.args.path.now d (record { from = 0; to = 0 })) in
    let h : d < length c.args.path.now = omega arith in
    let long : length ws ≡ length ts = length-map c.args.path.now (within c.args.second.now) ∙ c.requires.path in
    let e = along_more m ts ws d t w long c.loop-depth-test.true c.index-terms-depth.is (get_or-map (within c.args.second.now) c.args.path.now d (record { from = 0; to = 0 }) w h) in
    let wrote = c.in_ok-write_followed.ensures.wrote in
    let piece : Mid c.loop-depth.outputs.count c.write_followed.new.outputs.count (followed_by m t w) c.loop-depth.outputs.items.now c.write_followed.new.outputs.items.now =
    record { ends = wrote.0; room = wrote.1; is = wrote.2 } in
    (mid_same _ _ _ _ _ _ (sym e) (mid_more _ _ _ _ _ _ _ _ c.loop-depth.invariant.0 piece), c.write_followed.ensures.same ∙ c.loop-depth.invariant.1)

pub returns : goal.returns
returns g c =
    let m = g.A.Alphabet.model in
    let ts = c.args.terms.now in
    let ws = map (within c.args.second.now) c.args.path.now in
    let d = c.loop-depth.depth in
    let long : length ws ≡ length ts = length-map c.args.path.now (within c.args.second.now) ∙ c.requires.path in
    let whole = ap (λ l. along m l (take d ws)) (take_all d ts c.loop-depth-test.false) ∙ ap (along m ts) (take_all d ws (omega arith)) in
    let k = mid_same _ _ _ _ _ _ whole c.loop-depth.invariant.0 in
    record { wrote = (k.ends, k.room, k.is); same = c.loop-depth.invariant.1 }
