-- Entries as values, or by the positions of their bytes.
use Rattle.bpf_cert_format.specs.declared.leaf.Kind.{Kind}
use Rattle.bpf_cert_format.specs.declared.leaf.Kind.TheVariants.{Read, Spelled}
use Rattle.bpf_cert_format.specs.Unread.{entry_from}
use Rattle.bpf_cert_format.specs.Views.{EntryView}

-- the entry itself, or the one that is read at its position
abbrev pub entry_in : Kind → EntryView
entry_in (Read e) = e
entry_in (Spelled u) = entry_from u
