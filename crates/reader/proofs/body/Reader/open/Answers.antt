use Rattle.std.proofs.Common.{◌≡◌, ◌≤◌, length, Ok, Err, sym, ap, ◌∙◌, arith, rules}
use Rattle.codec_laws.specs.Numbers.{at}
use Rattle.stored_laws.specs.declared.StoredFault.TheVariants.{LeftOver}
use Rattle.stored_laws.specs.Format.{then, none_wrong, bodies_at, file_size}
use Rattle.reader.proofs.Stands.{end_is, rest_size, cut_short, left_over, by_outputs, is_whole}
use Rattle.reader.proofs.body.Reader.open.Goals as goal

pub returns-then-size-file : goal.returns-then-size-file
returns-then-size-file g c =
    let file = c.args.file.now in
    let starts : bodies_at file ≤ length file = omega (arith, rest_size file) in
    let size : c.body_at-size.result ≡ file_size file = c.body_at-size.ensures.place ∙ end_is file in
    let alphabet : at file 0 ≡ g.A.Stored.number = omega arith in
    record {
      file = ap (λ n. Err (LeftOver n)) size
          ∙ sym (ap (λ r. then r (Ok file)) (left_over g.A.Term.Record.code file g.A.Stored.number (omega arith) alphabet c.if-count-gt-MOST_BODIES.false starts (omega arith)));
      width = λ e. c.byte.ensures.term_width;
    }

pub first_bad-requires : goal.first_bad-requires
first_bad-requires g c =
    let file = c.args.file.now in
    let starts : bodies_at file ≤ length file = omega (arith, rest_size file) in
    let size : c.body_at-size.result ≡ file_size file = c.body_at-size.ensures.place ∙ end_is file in
    let alphabet : at file 0 ≡ g.A.Stored.number = omega arith in
    record {
      whole = is_whole g.A.Term.Record.code file g.A.Stored.number (omega arith) alphabet c.if-count-gt-MOST_BODIES.false starts (omega arith);
      five = c.byte.ensures.term_width;
    }

pub returns-in-Some : goal.returns-in-Some
returns-in-Some g c =
    let file = c.args.file.now in
    let starts : bodies_at file ≤ length file = omega (arith, rest_size file) in
    let size : c.body_at-size.result ≡ file_size file = c.body_at-size.ensures.place ∙ end_is file in
    let alphabet : at file 0 ≡ g.A.Stored.number = omega arith in
    let whole = by_outputs g.A.Term.Record.code file g.A.Stored.number (omega arith) alphabet c.if-count-gt-MOST_BODIES.false starts (omega arith) in
    record { file = sym (ap (λ r. then r (Ok file)) (whole ∙ ap none_wrong (sym c.in-Some.ensures))); width = λ e. c.byte.ensures.term_width }

pub returns : goal.returns
returns g c =
    let file = c.args.file.now in
    let starts : bodies_at file ≤ length file = omega (arith, rest_size file) in
    let size : c.body_at-size.result ≡ file_size file = c.body_at-size.ensures.place ∙ end_is file in
    let alphabet : at file 0 ≡ g.A.Stored.number = omega arith in
    let whole = by_outputs g.A.Term.Record.code file g.A.Stored.number (omega arith) alphabet c.if-count-gt-MOST_BODIES.false starts (omega arith) in
    record { file = sym (ap (λ r. then r (Ok file)) (whole ∙ ap none_wrong (sym c.first_bad.ensures ∙ c.in_default-first_bad.is))); width = λ e. c.byte.ensures.term_width }
