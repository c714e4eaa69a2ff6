use Rattle.std.proofs.Common.{◌≡◌, ◌+◌, ◌*◌, ◌/◌, ◌%◌, ◌++◌, codes, get_or, ap, ◌∙◌, arith, Some}
use Rattle.civil.specs.Octets.{fraction, generalized_octets}
use Rattle.civil.proofs.Fronts.{behind_front, same_time, day_below}
use Rattle.civil.proofs.generalized_time.GeneralizedTime.candidate.Goals as goal

pub returns : goal.returns
unfolding generalized_octets
returns c t h e =
    let n : c.nanosecond.result ≡ t.nanosecond =
    c.nanosecond.ensures t.nanosecond h.nanosecond (behind_front c.args.octets.now (fraction t.nanosecond ++ codes "Z") e) in
    let below = day_below t h in
    let months = h.month in
    let y : c.number.result ≡ t.year / 100 =
    c.number.ensures (t.year / 100) (let f = h.year in omega arith) (ap (λ l. get_or l 0 0) e) (ap (λ l. get_or l 1 0) e) in
    let z : c.number-2.result ≡ t.year % 100 =
    c.number-2.ensures (t.year % 100) (omega arith) (ap (λ l. get_or l 2 0) e) (ap (λ l. get_or l 3 0) e) in
    let m : c.number-3.result ≡ t.month = c.number-3.ensures t.month (omega arith) (ap (λ l. get_or l 4 0) e) (ap (λ l. get_or l 5 0) e) in
    let d : c.number-4.result ≡ t.day = c.number-4.ensures t.day below (ap (λ l. get_or l 6 0) e) (ap (λ l. get_or l 7 0) e) in
    let k : c.number-5.result ≡ t.hour =
    c.number-5.ensures t.hour (let f = h.hour in omega arith) (ap (λ l. get_or l 8 0) e) (ap (λ l. get_or l 9 0) e) in
    let i : c.number-6.result ≡ t.minute =
    c.number-6.ensures t.minute (let f = h.minute in omega arith) (ap (λ l. get_or l 10 0) e) (ap (λ l. get_or l 11 0) e) in
    let s : c.number-7.result ≡ t.second =
    c.number-7.ensures t.second (let f = h.second in omega arith) (ap (λ l. get_or l 12 0) e) (ap (λ l. get_or l 13 0) e) in
    let year : 100 * c.from.result + c.from-2.result ≡ t.year = (let p = c.from.ensures in let q = c.from-2.ensures in omega arith) in
    let w = same_time t year m d k i s n in
    let all : c.from_date_time.result ≡ t = c.from_date_time.ensures.0 ∙ c.in_ok-time.ensures.0 ∙ w in
    ap (λ x. Some x) all
