use Rattle.std.proofs.Common.{◌≡◌, ◌++◌, rules}
use Rattle.capture.specs.declared.new_packet.Side.TheVariants.{In, Out, Up}
use Rattle.capture.specs.Blocks.{section}
use Rattle.capture.specs.Writing.{block_of, section_body, interface_body}
use Rattle.capture.proofs.Counted.{appended_four}
use Rattle.capture.proofs.write.append_heading.Goals as goal

pub returns : goal.returns
returns c =
    let e1 : c.append_block.new.out.items ≡ c.args.out.now.items ++ block_of section section_body = search rules in
    let e2 : c.append_interface.new.out.items ≡ c.append_block.new.out.items ++ block_of 1 (interface_body In) = search rules in
    let e3 : c.append_interface-2.new.out.items ≡ c.append_interface.new.out.items ++ block_of 1 (interface_body Out) = search rules in
    let e4 : c.append_interface-3.new.out.items ≡ c.append_interface-2.new.out.items ++ block_of 1 (interface_body Up) = search rules in
    record { ok = appended_four _ _ _ _ _ (block_of section section_body) (block_of 1 (interface_body In)) (block_of 1 (interface_body Out)) (block_of 1 (interface_body Up)) e1 e2 e3 e4 }
