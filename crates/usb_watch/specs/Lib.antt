pub mod Watch
pub mod Shown
pub mod Lines
pub mod Pipes
-- the words of this crate, wherever one stands
pub use Watch.{AppendsFront, PendsFront, PutsText, calls_of, has_failed, has_pending, inner_of}
pub use Watch.{is_some_text, known_text, write_fails, write_takes}
pub use Shown.{ends_line, escaped, is_escaped, is_unbroken, shown_char, shown_name}
pub use Lines.{EndsLine, IsNextLine, IsUnbroken, ReadFront, ReadLine, ReadLong, ReadNoEnd, ReadPart}
pub use Lines.{ReadToEnd, ReadsByte}
pub use Pipes.{FailsToFlush, Flushes, OutPipe, Pipe, PutsLines, Reads, out_pipe_of, pipe_of}
pub use declared.line.LineFault.{LineFault}
pub use declared.line.LineFault.TheVariants.{Cut, Read}
pub use declared.watched.Watched.{Watched}
pub use declared.watched.WriteFailed.{WriteFailed}
