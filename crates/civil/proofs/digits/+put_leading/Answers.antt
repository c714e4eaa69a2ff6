use Rattle.std.proofs.Common.{rules, ◌≡◌, ◌+◌, length, refl, arith, sym, ◌∙◌, append-nil, length-append}
use Rattle.civil.proofs.Leading.{digits-none, fits_behind, unit_of, digit_of, others_of, digits_of}
use Rattle.civil.proofs.digits.+put_leading.Goals as goal

pub returns-then-number-eq0-clause-appended : goal.returns-then-number-eq0-clause-appended
returns-then-number-eq0-clause-appended t c = rw (c.if-number-eq0.true, digits-none c.args.count) (sym (append-nil c.args.octets.now))

pub nonzero_div-number : goal.nonzero_div-number
nonzero_div-number t c = unit_of c.args.count c.pow-unit.result (search rules)

pub overflow_cast-number : goal.overflow_cast-number
overflow_cast-number t c =
    let h = digit_of c.args.count c.args.number c.pow-unit.result (search rules) c.requires.fits (search rules) in omega arith

pub overflow_add-number : goal.overflow_add-number
overflow_add-number t c =
    let h = digit_of c.args.count c.args.number c.pow-unit.result (search rules) c.requires.fits (search rules) in omega arith

pub nonzero_rem-number : goal.nonzero_rem-number
nonzero_rem-number t c = unit_of c.args.count c.pow-unit.result (search rules)

pub put_leading-requires : goal.put_leading-requires
put_leading-requires t c =
    let p = fits_behind c.args.count c.args.number (search rules) c.requires.fits in
    (omega arith, (others_of c.args.count c.args.number c.pow-unit.result (search rules), (omega arith, rw (c.push.ensures, length-append) (omega arith))))

pub returns-clause-appended : goal.returns-clause-appended
returns-clause-appended t c =
    c.put_leading.ensures.appended
    ∙ rw c.push.ensures (digits_of c.args.count c.args.number c.pow-unit.result c.args.octets.now (search rules) c.requires.fits (search rules))

pub returns-clause-few : goal.returns-clause-few
returns-clause-few t c =
    let p = fits_behind c.args.count c.args.number (search rules) c.requires.fits in
    let l : length c.push.new.self ≡ length c.args.octets.now + 1 = rw (c.push.ensures, length-append) refl in
    let f = c.put_leading.ensures.few in
    omega arith
