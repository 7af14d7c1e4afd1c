use Rattle.std.proofs.lemmas.Result.{on_ok_weaker}
use Rattle.apd_driver.proofs.Beginning.{begins_new}
use Rattle.apd_driver.proofs.captures.destination.InFileCapturing.begin.Goals as goal

pub returns : goal.returns
returns g c =
    let old = c.args.self.now.recorder in
    record {
      heading = on_ok_weaker c.write_heading.result
          (λ h known. begins_new (g.T.Write.contents old.tape) (g.T.Write.contents c.open.new.self) (g.T.Write.contents c.write_heading.new.self.tape) old.time c.write_heading.new.self.time (known (record { recorder = record { alloc = old.alloc; tape = c.open.new.self; time = old.time } }))
          c.in_ok-open.ensures.empty h c.write_heading.ensures.time)
          c.write_heading.ensures.whole;
    }
