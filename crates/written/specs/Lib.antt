-- In reading order: words for bytes and places; the two public documents; header files; PDF blocks; tree text; linking, tables and walks; tables back to text.
pub mod Bytes
pub mod Rfc3629
pub mod Interchange
pub mod Sections
pub mod HeaderText
pub mod Groups
pub mod Record
pub mod Faults
pub mod Blocks
pub mod Said
pub mod TreeText
pub mod Breaks
pub mod Linking
pub mod Tables
pub mod Models
pub mod Loading
pub mod Walks
-- Document 02: answers from a label (Wish 1); text out of tables (Wish 6); a trailer behind the data (7); how many questions a walk can ask (8);
-- two tasks in one set of tables (9); house voices (11); the walk over the text itself (12); rows from the voice maker (13).
pub mod Matching
pub mod Writing
pub mod Trailer
pub mod Depths
pub mod Sharing
pub mod House
pub mod Meter
pub mod Suppliers
