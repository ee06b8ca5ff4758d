pub mod Escape
pub mod Pages
-- the words of this crate, wherever one stands
pub use Escape.{IsPlain, Shows, escaped, shown_byte}
unfoldable pub use Pages.{page_text}
