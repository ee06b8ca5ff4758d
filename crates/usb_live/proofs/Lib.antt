mod Courses
mod KeptOptions
