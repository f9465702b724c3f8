pub mod Laws
pub mod FromText
pub mod Same
pub mod Literals
-- What public clauses cite of the crates below, so that a caller names this crate alone.

-- values, shapes and their text
pub use Rattle.wkt_access.specs.Values
pub use Rattle.wkt_access.specs.Shapes
pub use Rattle.wkt_access.specs.Texts
pub use Rattle.wkt_access.specs.WellFormed
pub use Rattle.wkt_access.specs.Faults
pub use Rattle.wkt_access.specs.Parts
pub use Rattle.wkt_access.specs.declared.dimensions.Dimension
pub use Rattle.wkt_access.specs.declared.dimensions.Dimensions
pub use Rattle.wkt_access.specs.declared.error.Error as WriteError
pub use Rattle.wkt_write.specs.Writes
-- numbers, and sinks of text
pub use Rattle.wkt_num.specs.Bytes
pub use Rattle.wkt_num.specs.Number
pub use Rattle.wkt_num.specs.Whole
pub use Rattle.wkt_num.specs.WholeLaws
pub use Rattle.wkt_num.specs.Decimal
pub use Rattle.wkt_num.specs.Sink
pub use Rattle.wkt_num.specs.Borrowed as BorrowedSinks
-- sinks and sources of bytes
pub use Rattle.wkt_bytes.specs.Sinks
pub use Rattle.wkt_bytes.specs.Wrapper
pub use Rattle.wkt_bytes.specs.Growing
-- what is read
pub use Rattle.wkt_read.specs.Lexemes
pub use Rattle.wkt_read.specs.Spanned
pub use Rattle.wkt_read.specs.Grammar
pub use Rattle.wkt_read.specs.Front
pub use Rattle.wkt_read.specs.Begun
pub use Rattle.wkt_read.specs.Items
pub use Rattle.wkt_read.specs.Stream
pub use Rattle.wkt_read.specs.Answered
pub use Rattle.wkt_read.specs.Messages
pub use Rattle.wkt_read.specs.Refusal
pub use Rattle.wkt_read.specs.Header
pub use Rattle.wkt_read.specs.Headline
pub use Rattle.wkt_read.specs.Laws as ReadLaws
pub use Rattle.wkt_read.specs.OldForms
pub use Rattle.wkt_read.specs.declared.error.ReadError
pub use Rattle.wkt_read.specs.declared.messages.Message
pub use Rattle.wkt_read.specs.declared.infer.InferError
-- canonical texts, and geometries as events
pub use Rattle.wkt_canonical.specs.Canonical as CanonicalText
pub use Rattle.wkt_machine.specs.Makers
pub use Rattle.wkt_machine.specs.Room
pub use Rattle.wkt_machine.specs.Events
pub use Rattle.wkt_machine.specs.View
pub use Rattle.wkt_sources.specs.Views
pub use Rattle.wkt_machine.specs.Goes
pub use Rattle.wkt_machine.specs.Machine as MachineStates
pub use Rattle.wkt_machine.specs.Machines
-- where a text is refused
pub use Rattle.wkt_read.specs.Explained
pub use Rattle.wkt_read.specs.Context
pub use Rattle.wkt_read.specs.Table
pub use Rattle.wkt_read.specs.Words
pub use Rattle.wkt_read.specs.declared.expected.Expected
pub use Rattle.wkt_explain.specs.declared.explanation.Explanation
-- what a `Wkt` holds
pub use Rattle.wkt_types.specs.Tree
pub use Rattle.wkt_types.specs.Equal
pub use Rattle.wkt_types.specs.Values as TreeValues
pub use Rattle.wkt_types.specs.Canonical
pub use Rattle.wkt_types.specs.Held
pub use Rattle.wkt_types.specs.Shown
pub use Rattle.wkt_types.specs.Outcome
pub use Rattle.wkt_types.specs.declared.geometry.Wkt
pub use Rattle.wkt_types.specs.declared.convert.ConvertError
-- what a two-dimensional geometry holds
pub use Rattle.wkt_flat.specs.Tree as FlatTree
pub use Rattle.wkt_flat.specs.Equal as FlatEqual
pub use Rattle.wkt_flat.specs.Shape as FlatShape
pub use Rattle.wkt_flat.specs.Rings
pub use Rattle.wkt_flat.specs.declared.coord.Coord as FlatCoord
-- conversions between the two
pub use Rattle.wkt_convert.specs.Flatten
pub use Rattle.wkt_convert.specs.Kinds as FlatKinds
pub use Rattle.wkt_convert.specs.Back
pub use Rattle.wkt_convert.specs.Sent
pub use Rattle.wkt_convert.specs.declared.send.ToWktError
pub use Rattle.wkt_convert.specs.Laws as ConversionLaws
