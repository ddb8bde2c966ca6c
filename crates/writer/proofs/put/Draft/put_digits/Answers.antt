-- Each turn lays one digit before those that are there, and the one below 10 ends.
use Rattle.std.proofs.Common.{◌≡◌, suc, ◌-◌, ◌<◌, ◌∙◌, length, ap, arith, rules}
use Rattle.writer.proofs.Digits.{tenth, put_next, put_last}
use Rattle.writer.proofs.put.Draft.put_digits.Goals as goal

pub loop-rest-preserved : goal.loop-rest-preserved
loop-rest-preserved c =
    let l = c.loop-rest in
    let h : l.first < length l.text = omega arith in
    let t = tenth l.first l.rest c.loop-rest-test.true l.invariant.fits in
    let p : suc (l.first - 1) ≡ l.first = omega arith in
    record {
      room = search rules;
      place = omega arith;
      fits = rw p t.1;
      same = put_next l.text l.first l.rest h c.loop-rest-test.true t.0 ∙ l.invariant.same;
    }

pub put_bytes-requires : goal.put_bytes-requires
put_bytes-requires c =
    let l = c.loop-rest in
    let d = rw l.invariant.room at (put_last l.text l.first l.rest (omega arith) c.loop-rest-test.false) in
    omega (arith, ap length (d ∙ l.invariant.same))

pub returns : goal.returns
returns c =
    let l = c.loop-rest in
    let d = rw l.invariant.room at (put_last l.text l.first l.rest (omega arith) c.loop-rest-test.false) in
    rw (c.put_bytes.ensures, d, l.invariant.same)
