-- Cited by private functions alone: to_fault.
-- The fault of a page whose pairs are not read.
use Rattle.entry_code.specs.declared.fault.CodeFault.{CodeFault}
use Rattle.entry_code.specs.declared.fault.CodeFault.TheVariants as code
use Rattle.checkpoint_code.specs.declared.fault.PageFault.{PageFault}
use Rattle.checkpoint_code.specs.declared.fault.PageFault.TheVariants as page

abbrev pub to_page_fault : CodeFault → PageFault
to_page_fault code.Version = page.Version
to_page_fault code.Trailing = page.Trailing
to_page_fault code.Malformed = page.Malformed
to_page_fault code.Memory = page.Memory
