use Rattle.std.proofs.Common.{◌≡◌, ◌⊎◌, Err, refl, sym, rules, arith}
use Rattle.std.specs.Result.{IfErr}
use Rattle.std.proofs.lemmas.Result.{IfErr-weaker}
use Rattle.capture.specs.declared.fault.CaptureFault.TheVariants.{NoMemory}
use Rattle.capture.specs.Blocks.{framed_of}
use Rattle.capture.specs.Sections.{after_block}
use Rattle.capture.specs.Walking.{section_of, place_in}
use Rattle.capture.proofs.Stepping.{misread}
use Rattle.capture.proofs.block_walk.BlockWalk.step.Goals as goal

pub returns-in_err-packet-clause-fault : goal.returns-in_err-packet-clause-fault
returns-in_err-packet-clause-fault c =
    let w = c.args.self.now in
    let bad : IfErr c.from_residual-in_err-packet.result (λ e. (e ≡ NoMemory) ⊎ (after_block (place_in w) (section_of w.section) (framed_of c.in_ok-block.block) ≡ Err e)) = search rules in
    IfErr-weaker c.from_residual-in_err-packet.result _ _ (λ e h. misread (place_in w) (section_of w.section) w.rest.now (framed_of c.in_ok-block.block) e (sym c.in_ok-block.ensures.is) h) bad

pub returns-clause-ok : goal.returns-clause-ok
returns-clause-ok c = record {
  block = framed_of c.in_ok-block.block;
  framed = sym c.in_ok-block.ensures.is;
  led = c.in_ok-packet.ensures.ok;
  rest = refl;
  size = refl;
  fewer = omega (arith, c.requires.some, c.requires.enough);
  enough = omega (arith, c.requires.enough, c.in_ok-block.ensures.shorter);
  shorter = c.in_ok-block.ensures.shorter;
}
