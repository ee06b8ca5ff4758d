use Rattle.toml.specs.View.{table_view}
use Rattle.usb_diagnosis.specs.{AreBlocks}
use Rattle.usb_diagnosis.proofs.others.push_array.Given as goal

-- the lines so far are those on faults of the document
abbrev pub invariant-entries : goal.invariant-entries
invariant-entries l = AreBlocks l.subject.file.now l.subject.layout.now.text.now
    (table_view l.subject.document.now) l.blocks.texts.items
