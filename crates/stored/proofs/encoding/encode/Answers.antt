use Rattle.std.proofs.Common.{◌≡◌, ℕ, ◌+◌, ◌-◌, ◌*◌, ◌≤◌, List, ◌∷◌, length, take, Ok, Result, sym, refl, ap, ◌∙◌, arith}
use Rattle.std.specs.List.{flat_map}
use Rattle.std.proofs.lemmas.List.{length-take-le}
use Rattle.table.specs.Table.{table_of}
use Rattle.holdings.specs.Memory.{memory_of, in_use}
use Rattle.holdings.specs.Check.{checked_shelf}
use Rattle.holdings.specs.Append.{over}
use Rattle.holdings.proofs.Parts.{fitting}
use Rattle.codec_laws.specs.Entries.{entry_code}
use Rattle.codec_laws.specs.Lists.{image_all}
use Rattle.codec_laws.proofs.Overs.{over_none}
use Rattle.stored_laws.specs.declared.StoredFault.{StoredFault}
use Rattle.stored_laws.specs.Format.{body_of, parsed}
use Rattle.stored_laws.specs.Shelved.{tables_of, shelf_bytes}
use Rattle.stored_laws.proofs.Rounds.{shelf_back, file_again}
use Rattle.stored_laws.proofs.Safe.{fits_ok}
use Rattle.stored.proofs.Encodes.{small, shelf_size, body_room, body_more, length_more, all_size, all_written, encoded_short, encoded_ok, front_is}
use Rattle.stored.proofs.encoding.encode.Goals as goal

pub size_of-size-requires : goal.size_of-size-requires
size_of-size-requires g c =
    let m = g.A.Alphabet.model in
    let M = memory_of c.args.shelf.now in
    let sound : checked_shelf m M ≡ Ok tt = sym c.check.ensures ∙ c.in_ok-check.was in
    let s = small m M sound in
    record { holdings = s.holdings; states = s.states; rules = s.rules; outputs = s.outputs }

pub returns-then-out-size : goal.returns-then-out-size
returns-then-out-size g c =
    let m = g.A.Alphabet.model in
    let guard = g.A.Guard.GuardRecord.code in
    let term = g.A.Term.Record.code in
    let guards = g.A.Guard.GuardRecord.laws in
    let wide = g.A.Guard.GuardRecord.wide in
    let free = g.A.Guard.GuardRecord.free in
    let terms = g.A.Term.Record.laws in
    let k = g.A.Stored.number in
    let M = memory_of c.args.shelf.now in
    let five = c.byte-alphabet.ensures.term_width in
    let sound : checked_shelf m M ≡ Ok tt = sym c.check.ensures ∙ c.in_ok-check.was in
    let ok = fits_ok m M sound in
    let size = c.size_of-size.ensures ∙ sym (shelf_size guard term guards wide free terms five M ok k) in
    record { answer = sym (encoded_short m guard term k M sound (length c.args.out.now) c.size_of-size.result size c.if-out-size.true); bytes = refl; back = λ n e. absurd (grind arith); again = λ n file e. absurd (grind arith); keeps_on_refusal = λ f e. refl }

pub loop-i-init : goal.loop-i-init
loop-i-init g c =
    let m = g.A.Alphabet.model in
    let guard = g.A.Guard.GuardRecord.code in
    let term = g.A.Term.Record.code in
    let guards = g.A.Guard.GuardRecord.laws in
    let wide = g.A.Guard.GuardRecord.wide in
    let free = g.A.Guard.GuardRecord.free in
    let terms = g.A.Term.Record.laws in
    let k = g.A.Stored.number in
    let M = memory_of c.args.shelf.now in
    let five = c.byte-alphabet.ensures.term_width in
    let sound : checked_shelf m M ≡ Ok tt = sym c.check.ensures ∙ c.in_ok-check.was in
    let ok = fits_ok m M sound in
    let z : M.head.holdings - 0 ≡ M.head.holdings = omega arith in
    let front : c.put_front-at.result ≡ 2 + M.head.holdings * 6
    = c.put_front-at.ensures.end ∙ ap (λ n. 2 + n * 6) (ap (λ n. length (take n M.ledger)) z ∙ length-take-le M.head.holdings M.ledger (fitting M ok).long) in
    let e : c.put_front-at.result ≤ length c.put_front-at.new.out = omega arith in
    (omega arith, sym (over_none c.put_front-at.new.out c.put_front-at.result e))

pub put_body-at-requires : goal.put_body-at-requires
put_body-at-requires g c =
    let m = g.A.Alphabet.model in
    let guard = g.A.Guard.GuardRecord.code in
    let term = g.A.Term.Record.code in
    let guards = g.A.Guard.GuardRecord.laws in
    let wide = g.A.Guard.GuardRecord.wide in
    let free = g.A.Guard.GuardRecord.free in
    let terms = g.A.Term.Record.laws in
    let k = g.A.Stored.number in
    let M = memory_of c.args.shelf.now in
    let five = c.byte-alphabet.ensures.term_width in
    let sound : checked_shelf m M ≡ Ok tt = sym c.check.ensures ∙ c.in_ok-check.was in
    let ok = fits_ok m M sound in
    let size = c.size_of-size.ensures ∙ sym (shelf_size guard term guards wide free terms five M ok k) in
    let z : M.head.holdings - 0 ≡ M.head.holdings = omega arith in
    let front : c.put_front-at.result ≡ 2 + M.head.holdings * 6
    = c.put_front-at.ensures.end ∙ ap (λ n. 2 + n * 6) (ap (λ n. length (take n M.ledger)) z ∙ length-take-le M.head.holdings M.ledger (fitting M ok).long) in
    let h = body_room guard term guards wide free terms five M ok k c.loop-i.at c.loop-i.i (table_of c.view.result) c.loop-i-test.true c.view.ensures (c.loop-i.invariant.0 ∙ ap (λ n. n + length (flat_map (body_of guard term) (take c.loop-i.i (tables_of M)))) front) in
    record { room = omega arith }

pub loop-i-preserved : goal.loop-i-preserved
loop-i-preserved g c =
    let m = g.A.Alphabet.model in
    let guard = g.A.Guard.GuardRecord.code in
    let term = g.A.Term.Record.code in
    let guards = g.A.Guard.GuardRecord.laws in
    let wide = g.A.Guard.GuardRecord.wide in
    let free = g.A.Guard.GuardRecord.free in
    let terms = g.A.Term.Record.laws in
    let k = g.A.Stored.number in
    let M = memory_of c.args.shelf.now in
    let five = c.byte-alphabet.ensures.term_width in
    let sound : checked_shelf m M ≡ Ok tt = sym c.check.ensures ∙ c.in_ok-check.was in
    let ok = fits_ok m M sound in
    let z : M.head.holdings - 0 ≡ M.head.holdings = omega arith in
    let front : c.put_front-at.result ≡ 2 + M.head.holdings * 6
    = c.put_front-at.ensures.end ∙ ap (λ n. 2 + n * 6) (ap (λ n. length (take n M.ledger)) z ∙ length-take-le M.head.holdings M.ledger (fitting M ok).long) in
    let F = table_of c.view.result in (
      c.put_body-at.ensures.end ∙ length_more guard term guards wide free terms five M ok c.put_front-at.result c.loop-i.at c.loop-i.i F c.loop-i-test.true c.view.ensures c.loop-i.invariant.0,
      c.put_body-at.ensures.bytes ∙ body_more guard term guards wide free terms five M ok c.put_front-at.new.out c.loop-i.out c.put_front-at.result c.loop-i.at c.loop-i.i F (omega arith) c.loop-i-test.true c.view.ensures c.loop-i.invariant.0 c.loop-i.invariant.1,
    )

pub returns : goal.returns
returns g c =
    let m = g.A.Alphabet.model in
    let guard = g.A.Guard.GuardRecord.code in
    let term = g.A.Term.Record.code in
    let guards = g.A.Guard.GuardRecord.laws in
    let wide = g.A.Guard.GuardRecord.wide in
    let free = g.A.Guard.GuardRecord.free in
    let terms = g.A.Term.Record.laws in
    let k = g.A.Stored.number in
    let M = memory_of c.args.shelf.now in
    let five = c.byte-alphabet.ensures.term_width in
    let sound : checked_shelf m M ≡ Ok tt = sym c.check.ensures ∙ c.in_ok-check.was in
    let ok = fits_ok m M sound in
    let z : M.head.holdings - 0 ≡ M.head.holdings = omega arith in
    let front : c.put_front-at.result ≡ 2 + M.head.holdings * 6
    = c.put_front-at.ensures.end ∙ ap (λ n. 2 + n * 6) (ap (λ n. length (take n M.ledger)) z ∙ length-take-le M.head.holdings M.ledger (fitting M ok).long) in
    let size = c.size_of-size.ensures ∙ sym (shelf_size guard term guards wide free terms five M ok k) in
    let first : ℕ → ℕ → List ℕ = λ a n. a ∷ length (take n M.ledger) ∷ image_all entry_code (take n M.ledger) in
    let start : c.put_front-at.new.out ≡ over c.args.out.now 0 (k ∷ length (in_use M) ∷ image_all entry_code (in_use M))
    = c.put_front-at.ensures.bytes
    ∙ ap (λ a. over c.args.out.now 0 (first a (M.head.holdings - 0))) c.byte-alphabet.ensures.byte
    ∙ ap (λ n. over c.args.out.now 0 (first k n)) z in
    let written = all_written guard term guards wide free terms five M ok k c.args.out.now c.put_front-at.new.out c.loop-i.out c.put_front-at.result c.loop-i.i c.loop-i-test.false front start c.loop-i.invariant.1 in
    let done = encoded_ok m guard term k M sound (length c.args.out.now) c.size_of-size.result size c.if-out-size.false in
    let end : c.loop-i.at ≡ c.size_of-size.result = all_size guard term guards wide free terms five M ok k c.put_front-at.result c.loop-i.at c.loop-i.i c.loop-i-test.false front c.loop-i.invariant.0 ∙ sym size in
    let shelfs = shelf_bytes m guard term k M in
    let front_of : (n : ℕ) → ◌≡◌ {A = Result ℕ StoredFault} (Ok c.loop-i.at) (Ok n) → take n c.loop-i.out ≡ shelfs = λ n e. ap (take n) written ∙ front_is c.args.out.now shelfs n c.loop-i.at e (end ∙ size) in
    record {
      answer = ap Ok end ∙ sym done;
      bytes = written;
      back = λ n e. ap (parsed guard term k) (front_of n e) ∙ shelf_back guard term guards wide free terms five m c.byte-alphabet.ensures.guards c.byte-alphabet.ensures.terms k M sound;
      again = λ n file e bytes p. front_of n e ∙ file_again guard term guards wide free terms five k file (tables_of M) bytes p;
      keeps_on_refusal = λ f e. absurd (grind arith);
    }
